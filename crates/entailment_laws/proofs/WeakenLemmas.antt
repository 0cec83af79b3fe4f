-- What is left of a predicate where only the conjuncts stay that another entails: each entails it.
use Rattle.std.proofs.Common.{◌≡◌, ℕ, zero, suc, ◌+◌, Bool, true, false, List, [], ◌∷◌, slice_get, get_or, filter, Option, Some, None, refl, ap, ap₂, ◌∙◌, subst}
use Rattle.std.specs.Prelude.{cond, if◌then◌else◌}
use Rattle.std.specs.List.{list_all, Contains}
use Rattle.std.specs.Option.{option_map_or, option_or}
use Rattle.std.proofs.lemmas.Bool.{and_parts, and_from}
use Rattle.std.proofs.lemmas.List.Elements.{Contains-get_or}
use Rattle.sym_terms.specs.Plain.{PlainSum}
use Rattle.mem_forest.specs.Plain.{PlainForest, none, cell, PlainNode, count}
use Rattle.mem_forest.specs.Holders.{holder, weakened}
use Rattle.predicates.specs.declared.bound.Bound.{Bound}
use Rattle.predicates.specs.Predicate.{Predicate}
use Rattle.predicates.specs.Entails.{Entails}
use Rattle.predicates.specs.Holding.{holds_term, holds_flags, holds_bound}
use Rattle.predicates.specs.Missing.{missing_cell}
use Rattle.predicates.specs.Weaken.{weaker_registers, weaker_bounds, weaken}
use Rattle.predicates.proofs.AmongLemmas.{passed_at, all_from}
use Rattle.predicates.proofs.TermLemmas.{term_known, term_holds, fact_known, fact_holds}
use Rattle.predicates.proofs.CellLemmas.{all_from_none, none_from_all}
use Rattle.entailment_laws.specs.Laws.{OwnLaw, OtherLaw, UnchangedLaw}
use Rattle.entailment_laws.proofs.WithinLemmas.{bound_itself}
use Rattle.entailment_laws.proofs.LawLemmas.{reflexive, same}

-- ---- the registers and the flags

-- what stays where a test passes
stays : {X : Type 0} (b : Bool) (o : Option X) (x : X) → (if b then o else None) ≡ Some x → (b ≡ true) × (o ≡ Some x)
stays true o x e = (refl, e)
stays false o x e = absurd (cc)

known : (hs ts : List (Option PlainSum)) (r : ℕ) (t : PlainSum) → slice_get (weaker_registers hs ts) r ≡ Some (Some t) → (slice_get ts r ≡ Some (Some t)) × (slice_get hs r ≡ Some (Some t))
known hs [] r t e = absurd (cc)
known [] (x ∷ ts) zero t e = absurd (cc)
known [] (x ∷ ts) (suc r) t e = known [] ts r t e
known (h ∷ hs) (x ∷ ts) zero t e =
    let f : (if holds_term h x then x else None) ≡ Some t = cc in
    let both = stays (holds_term h x) x t f in
    (ap Some both.1, ap Some (term_known h x t both.0 both.1))
known (h ∷ hs) (x ∷ ts) (suc r) t e = known hs ts r t e

same_registers : (hs ts : List (Option PlainSum)) → ((r : ℕ) (t : PlainSum) → slice_get ts r ≡ Some (Some t) → slice_get hs r ≡ Some (Some t)) → weaker_registers hs ts ≡ ts
same_registers hs [] h = refl
same_registers [] (None ∷ ts) h = ap (λ xs. None ∷ xs) (same_registers [] ts (λ r t e. h (suc r) t e))
same_registers [] (Some x ∷ ts) h = let f : slice_get [] 0 ≡ Some (Some x) = h 0 x refl in absurd (cc)
same_registers (y ∷ hs) (x ∷ ts) h =
    let first : holds_term y x ≡ true = term_holds y x (λ t e. let f : Some y ≡ Some (Some t) = h 0 t (ap Some e) in cc) in
    ap (λ b. (if b then x else None) ∷ weaker_registers hs ts) first ∙ ap (λ xs. x ∷ xs) (same_registers hs ts (λ r t e. h (suc r) t e))

-- ---- the bounds

all_stay : {X : Type 0} (q p : X → Bool) (xs : List X) → list_all q xs ≡ true → list_all q (filter p xs) ≡ true
all_stay q p [] e = refl
all_stay q p (x ∷ xs) e =
    let both = and_parts (q x) (list_all q xs) e in
    elim (p x) as (λ b. list_all q (cond b (x ∷ filter p xs) (filter p xs)) ≡ true) [
      | true ↦ and_from (q x) (list_all q (filter p xs)) both.0 (all_stay q p xs both.1)
      | false ↦ all_stay q p xs both.1
    ]

one_passes : {X : Type 0} (p : X → Bool) (x : X) (ys : List X) (b : Bool) → p x ≡ b → list_all p ys ≡ true → list_all p (cond b (x ∷ ys) ys) ≡ true
one_passes p x ys true e h = and_from (p x) (list_all p ys) e h
one_passes p x ys false e h = h

all_pass : {X : Type 0} (p : X → Bool) (xs : List X) → list_all p (filter p xs) ≡ true
all_pass p [] = refl
all_pass p (x ∷ xs) = one_passes p x (filter p xs) (p x) refl (all_pass p xs)

same_items : {X : Type 0} (p : X → Bool) (xs : List X) → list_all p xs ≡ true → filter p xs ≡ xs
same_items p [] e = refl
same_items p (x ∷ xs) e =
    let both = and_parts (p x) (list_all p xs) e in
    ap (λ b. cond b (x ∷ filter p xs) (filter p xs)) both.0 ∙ ap (λ ys. x ∷ ys) (same_items p xs both.1)

one_of : (p : Bound → Bool) (bs : List Bound) (b : Bound) → list_all p bs ≡ true → Contains bs b → p b ≡ true
one_of p bs b e m =
    let P : Bound → Type 0 = λ x. p x ≡ true in
    subst P m.2 (passed_at p bs m.0 b e m.1)

all_held : (hs bs : List Bound) → ((b : Bound) → Contains bs b → holds_bound hs b ≡ true) → list_all (holds_bound hs) bs ≡ true
all_held hs bs h = all_from (holds_bound hs) bs (λ i d k. h (get_or bs i d) (Contains-get_or bs i d k))

-- ---- the nodes

abbrev pub kept_by : PlainForest → List PlainSum → ℕ → Option PlainSum → PlainForest → PlainForest → Option PlainNode → PlainForest
kept_by held ns b v under rest o = elim o as (λ o. PlainForest) [
  | Some c ↦ cell ns b v (weakened c.under under) (weakened held rest)
  | None ↦ weakened held rest
]

abbrev missing_by : ℕ → PlainForest → PlainForest → PlainForest → Option PlainNode → Option ℕ
missing_by n f under rest o = option_map_or (λ c. option_or (missing_cell (n + 1) c.under under) (missing_cell (n + 1 + count under) f rest)) o (Some n)

record IsFound (n : ℕ) (f : PlainForest) (ns : List PlainSum) (b : ℕ) (v : Option PlainSum) (under rest : PlainForest) : Type 0 where
  node : PlainNode
  is : holder f ns b v ≡ Some node
  below : missing_cell (n + 1) node.under under ≡ None
  beside : missing_cell (n + 1 + count under) f rest ≡ None

none_of : (o p : Option ℕ) → option_or o p ≡ None → (o ≡ None) × (p ≡ None)
none_of None p e = (refl, e)
none_of (Some x) p e = absurd (cc)

found : (n : ℕ) (f : PlainForest) (ns : List PlainSum) (b : ℕ) (v : Option PlainSum) (under rest : PlainForest) (o : Option PlainNode) → holder f ns b v ≡ o
    → missing_by n f under rest o ≡ None → IsFound n f ns b v under rest
found n f ns b v under rest None q e = absurd (cc)
found n f ns b v under rest (Some d) q e =
    let both = none_of (missing_cell (n + 1) d.under under) (missing_cell (n + 1 + count under) f rest) e in
    record { node = d; is = q; below = both.0; beside = both.1 }

none_missing : (n : ℕ) (f : PlainForest) (ns : List PlainSum) (b : ℕ) (v : Option PlainSum) (under rest : PlainForest) (d : PlainNode) → holder f ns b v ≡ Some d
    → missing_cell (n + 1) d.under under ≡ None → missing_cell (n + 1 + count under) f rest ≡ None → missing_cell n f (cell ns b v under rest) ≡ None
none_missing n f ns b v under rest d is below beside =
    ap (missing_by n f under rest) is ∙ ap (λ o. option_or o (missing_cell (n + 1 + count under) f rest)) below ∙ beside

-- where no node is missing, none is once some go
fewer_missing : (f held g : PlainForest) (n m : ℕ) → missing_cell n f g ≡ None → missing_cell m f (weakened held g) ≡ None
fewer_missing f held none n m e = refl
fewer_missing f held (cell ns b v under rest) n m e =
    let d = found n f ns b v under rest (holder f ns b v) refl e in
    elim (holder held ns b v) as (λ o. missing_cell m f (kept_by held ns b v under rest o) ≡ None) [
      | Some c ↦ none_missing m f ns b v (weakened c.under under) (weakened held rest) d.node d.is
          (fewer_missing d.node.under c.under under (n + 1) (m + 1) d.below)
          (fewer_missing f held rest (n + 1 + count under) (m + 1 + count (weakened c.under under)) d.beside)
      | None ↦ fewer_missing f held rest (n + 1 + count under) m d.beside
    ]

-- of the nodes that stay none is missing
held_by : (held : PlainForest) (ns : List PlainSum) (b : ℕ) (v : Option PlainSum) (under rest : PlainForest) (n : ℕ) (o : Option PlainNode) → holder held ns b v ≡ o
    → ((c : PlainNode) → missing_cell (n + 1) c.under (weakened c.under under) ≡ None) → ((m : ℕ) → missing_cell m held (weakened held rest) ≡ None)
    → missing_cell n held (kept_by held ns b v under rest o) ≡ None
held_by held ns b v under rest n None e below beside = beside n
held_by held ns b v under rest n (Some c) e below beside =
    none_missing n held ns b v (weakened c.under under) (weakened held rest) c e (below c) (beside (n + 1 + count (weakened c.under under)))

none_held : (held g : PlainForest) (n : ℕ) → missing_cell n held (weakened held g) ≡ None
none_held held none n = refl
none_held held (cell ns b v under rest) n =
    held_by held ns b v under rest n (holder held ns b v) refl (λ c. none_held c.under under (n + 1)) (λ m. none_held held rest m)

-- where none is missing, each stays
same_nodes : (held g : PlainForest) (n : ℕ) → missing_cell n held g ≡ None → weakened held g ≡ g
same_nodes held none n e = refl
same_nodes held (cell ns b v under rest) n e =
    let d = found n held ns b v under rest (holder held ns b v) refl e in
    ap (kept_by held ns b v under rest) d.is
    ∙ ap₂ (λ u r. cell ns b v u r) (same_nodes d.node.under under (n + 1) d.below) (same_nodes held rest (n + 1 + count under) d.beside)

-- ---- the laws

pub own : OwnLaw
own p r h = record {
  registers = λ n t e. (known r.regs p.regs n t e).0;
  flags = λ f e. (stays (holds_flags r.flags p.flags) p.flags f e).1;
  bounds = λ b m. one_of (holds_bound p.bounds) (weaker_bounds r.bounds p.bounds) b
      (all_stay (holds_bound p.bounds) (λ x. holds_bound r.bounds x) p.bounds (all_held p.bounds p.bounds (bound_itself p.bounds))) m;
  cells = all_from_none p.forest (weakened r.forest p.forest) 0
      (fewer_missing p.forest r.forest p.forest 0 0 (none_from_all 0 p.forest p.forest h.single h.in_form (reflexive p).cells));
}

pub other : OtherLaw
other p r = record {
  registers = λ n t e. (known r.regs p.regs n t e).1;
  flags = λ f e. let both = stays (holds_flags r.flags p.flags) p.flags f e in fact_known r.flags p.flags f both.0 both.1;
  bounds = λ b m. one_of (holds_bound r.bounds) (weaker_bounds r.bounds p.bounds) b (all_pass (λ x. holds_bound r.bounds x) p.bounds) m;
  cells = all_from_none r.forest (weakened r.forest p.forest) 0 (none_held r.forest p.forest 0);
}

pub unchanged : UnchangedLaw
unchanged p r h = (
  λ e. let P : Predicate → Type 0 = λ q. Entails r q in subst P e (other p r),
  λ k. same (weaken p r) p
      (same_registers r.regs p.regs k.registers)
      (ap (λ b. if b then p.flags else None) (fact_holds r.flags p.flags k.flags))
      (same_items (λ x. holds_bound r.bounds x) p.bounds (all_held r.bounds p.bounds k.bounds))
      (same_nodes r.forest p.forest 0 (none_from_all 0 r.forest p.forest h.single h.in_form k.cells)),
)
