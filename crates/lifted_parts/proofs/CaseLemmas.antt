-- What is known of a vertex of a site: its predicate, and the cases of the instruction there.
use Rattle.std.proofs.Common.{◌≡◌, ◌<◌, ℕ, zero, suc, true, false, List, [], ◌∷◌, length, map, Some, None, Option, slice_get, refl, sym, ap, ◌∙◌, subst, inl, inr}
use Rattle.std.specs.Prelude.{IsSome}
use Rattle.std.specs.Option.{option_map}
use Rattle.predicates.specs.Predicate.{Predicate}
use Rattle.predicates.specs.Kinds.{has_edges}
use Rattle.x86_instr.specs.declared.instr.Instr.{Instr}
use Rattle.step_rules.specs.Cases as step
use Rattle.lift_graph.specs.Graph.{address_at}
use Rattle.lift_graph.specs.Search.{IsMember}
use Rattle.lift_graph.specs.declared.graph.Graph.{Graph}
use Rattle.lift_rounds.specs.Known.{Known, pred_at, cases_at, cases_from}
use Rattle.site_lines.specs.declared.lines.Lines.{Lines}
use Rattle.site_lines.specs.Subject.{Subject}
use Rattle.site_lines.specs.Lines.{site_cases, cases_here, view_with}
use Rattle.image_steps.specs.Meant.{known_among, case_of, meaning_of}
use Rattle.lifted_parts.specs.Built.{IsBuilt, here, preds_here}
use Rattle.lifted_parts.specs.Rest.{IsAtRest, HasForm}
use Rattle.graph_data.specs.declared.graph.Function.{Function}
use Rattle.lifted_parts.proofs.FoundLemmas.{here_only}

-- a vertex that is known is among those that are
pub member_known : (known : List (Known Predicate)) (vs : List ℕ) (k v : ℕ) (p : Predicate) → slice_get vs k ≡ Some v → pred_at known v ≡ Some p → IsMember p (known_among (map (pred_at known) vs))
member_known known [] k v p h e = absurd (let z : ⊥ = cc in z)
member_known known (u ∷ vs) zero v p h e =
    let same : v ≡ u = let w : u ≡ v = cc in sym w in
    rw (subst (λ x. pred_at known x ≡ Some p) same e) (inl refl)
member_known known (u ∷ vs) (suc k) v p h e =
    let rest = member_known known vs k v p h e in
    elim (pred_at known u) as (λ o. IsMember p (known_among (o ∷ map (pred_at known) vs))) [
      | None ↦ rest
      | Some q ↦ inr rest
    ]

-- what is there
pub some_of : {A : Type 0} (o : Option A) → IsSome o → (x : A) × (o ≡ Some x)
some_of None h = absurd (let z : ⊥ = cc in z)
some_of (Some x) h = (x, refl)

-- the cases that were found, where there are some
pub mapped_some : {A B : Type 0} (f : A → B) (o : Option A) (y : B) → option_map f o ≡ Some y → (x : A) × (o ≡ Some x) × (f x ≡ y)
mapped_some f None y h = absurd (let z : ⊥ = cc in z)
mapped_some f (Some x) y h = (x, refl, let e : f x ≡ y = cc in e)

-- a vertex of a site: its predicate, in form, is one of those of the site, and gives its cases
pub record IsHere (s : Subject) (g : Graph) (known : List (Known Predicate)) (a v : ℕ) : Type 0 where
  pub below : v < length g.keys.items
  pub address_is : address_at g.keys.items v ≡ a
  pub pred : Predicate
  pub known_is : pred_at known v ≡ Some pred
  pub form : HasForm pred
  pub member : IsMember pred (preds_here g known a)
  pub cases : List step.Case
  pub gives : site_cases s a (preds_here g known a) pred ≡ Some cases
  pub same : map case_of cases ≡ cases_at known v

-- the cases by the instruction, at a kind with edges
pub cases_with : (s : Subject) (lines : Lines) (o : Option Instr) (i : Instr) (p : Predicate) → o ≡ Some i → has_edges lines.kind ≡ true → cases_here s.image lines o p ≡ step.cases (view_with s.image lines) i p
cases_with s lines o i p e h = ap (λ x. cases_here s.image lines x p) e ∙ (rw h refl)

-- at a kind without edges there are none
pub cases_without : (s : Subject) (lines : Lines) (o : Option Instr) (p : Predicate) → has_edges lines.kind ≡ false → cases_here s.image lines o p ≡ Some []
cases_without s lines None p h = refl
cases_without s lines (Some i) p h = rw h refl

module _ (s : Subject) (g : Graph) (known : List (Known Predicate)) (entry : ℕ) (f : Function) (rest : IsAtRest s g known entry) (built : IsBuilt s g known entry f) where
  pub is_here : (a k v : ℕ) → slice_get (here g a) k ≡ Some v → IsHere s g known a v
  is_here a k v h =
      let at = here_only s g known entry f rest built a k v h in
      let l : v < length known = subst (λ n. v < n) (sym rest.rows) at.0 in
      let p = some_of (pred_at known v) (rest.settled.known v l) in
      let gives : cases_from (meaning_of s) a (map (pred_at known) (here g a)) (Some p.0) ≡ Some (cases_at known v) =
      subst (λ o. cases_from (meaning_of s) a (map (pred_at known) (here g a)) o ≡ Some (cases_at known v)) p.1
      (subst (λ b. cases_from (meaning_of s) b (map (pred_at known) (here g b)) (pred_at known v) ≡ Some (cases_at known v)) at.1 (rest.settled.cases v l)) in
      let cs = mapped_some (map case_of) (site_cases s a (preds_here g known a) p.0) (cases_at known v) gives in
      record {
        below = at.0;
        address_is = at.1;
        pred = p.0;
        known_is = p.1;
        form = rest.formed.preds v p.0 p.1;
        member = member_known known (here g a) k v p.0 h p.1;
        cases = cs.0;
        gives = cs.1;
        same = cs.2;
      }
