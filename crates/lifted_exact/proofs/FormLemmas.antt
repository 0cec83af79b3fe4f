-- A function that was lifted is in form.
use Rattle.std.proofs.Common.{◌≡◌, ◌<◌, ◌≤◌, ◌||◌, ℕ, Bool, true, false, List, [], ◌∷◌, map, length, Option, Some, None, refl, sym, ap, ◌∙◌, subst, inl, inr, arith, le-leb}
use Rattle.std.specs.Prelude.{nat_le}
use Rattle.std.specs.Option.{option_map}
use Rattle.std.proofs.lemmas.Bool.{and_from}
use Rattle.predicates.specs.Predicate.{Predicate}
use Rattle.predicates.specs.Kinds.{may_fork}
use Rattle.graph_data.specs.declared.graph.Site.{Site}
use Rattle.graph_data.specs.declared.graph.Function.{Function}
use Rattle.graph_data.specs.Limits.{most_vertices}
use Rattle.graph_data.specs.Parts.{Each, Ascends}
use Rattle.graph_data.specs.WellFormed.{IsVertex, IsSite, HasSites, HasBody, edges_fit}
use Rattle.instr_at.specs.At.{instr_at}
use Rattle.lift_graph.specs.Rows.{items_at}
use Rattle.lift_graph.specs.Graph.{address_at}
use Rattle.lift_graph.specs.Search.{IsMember}
use Rattle.lift_graph.specs.declared.graph.Graph.{Graph}
use Rattle.lift_graph.proofs.IndexLemmas.{get_within}
use Rattle.lift_graph.proofs.MemberLemmas.{contains_from}
use Rattle.lift_rounds.specs.Known.{Known, pred_at, cases_at}
use Rattle.image_steps.specs.Meant.{case_of as round_case, known_among}
use Rattle.site_lines.specs.Subject.{Subject}
use Rattle.site_lines.specs.Kinds.{kind_at}
use Rattle.site_lines.specs.Lines.{cases_here, lines_at}
use Rattle.lifted_parts.specs.Built.{IsBuilt, here, preds_here, site_of, vertex_of, edge_to}
use Rattle.lifted_parts.specs.Rest.{IsAtRest, HasForm}
use Rattle.lifted_exact.specs.Laws.{FormLaw}
use Rattle.lifted_exact.specs.Looked.{AreLooked, IsLookedSite, IsLookedVertex}
use Rattle.lifted_exact.proofs.CaseLemmas.{cases_of, known_some, long_map, row_long}
use Rattle.lifted_exact.proofs.FactLemmas.{are_lines, are_pairs, are_regions}
use Rattle.lifted_exact.proofs.KeyLemmas.{site_below}
use Rattle.lifted_exact.proofs.KindLemmas.{line_kind, made_fit}
use Rattle.lifted_exact.proofs.TagLemmas.{few_here, some_here}

-- ---- lists

known_formed : (os : List (Option Predicate)) → ((p : Predicate) → IsMember (Some p) os → HasForm p) → (p : Predicate) → IsMember p (known_among os) → HasForm p
known_formed [] h p m = absurd m
known_formed (None ∷ os) h p m = known_formed os (λ q i. h q (inr i)) p m
known_formed (Some q ∷ os) h p m = elim m as (λ _. HasForm p) [
  | inl e ↦ h p (inl (ap Some e))
  | inr i ↦ known_formed os (λ r j. h r (inr j)) p i
]

mapped_from : {X Y : Type 0} (f : X → Y) (y : Y) (xs : List X) → IsMember y (map f xs) → (x : X) × IsMember x xs × (f x ≡ y)
mapped_from f y [] m = absurd m
mapped_from {X} f y (x ∷ xs) m = elim m as (λ _. (z : X) × IsMember z (x ∷ xs) × (f z ≡ y)) [
  | inl e ↦ (x, inl refl, e)
  | inr i ↦ (let r = mapped_from f y xs i in (r.0, inr r.1, r.2))
]

each_mapped : {X Y : Type 0} (f : X → Y) (P Q : Y → Type 0) (xs : List X) → ((x : X) → IsMember x xs → P (f x) → Q (f x)) → Each P (map f xs) → Each Q (map f xs)
each_mapped f P Q [] h e = tt
each_mapped f P Q (x ∷ xs) h e = (h x (inl refl) e.0, each_mapped f P Q xs (λ y m. h y (inr m)) e.1)

or_right : (a : Bool) → (a || true) ≡ true
or_right true = refl
or_right false = refl

module _ (s : Subject) (g : Graph) (known : List (Known Predicate)) (entry : ℕ) (f : Function) (rest : IsAtRest s g known entry) (built : IsBuilt s g known entry f) where
  preds_formed : (a : ℕ) (p : Predicate) → IsMember p (preds_here g known a) → HasForm p
  preds_formed a = known_formed (map (pred_at known) (here g a)) (λ p m. let of = mapped_from (pred_at known) (Some p) (here g a) m in rest.formed.preds of.0 p of.2)

  -- a vertex at an address has edges as its site has
  vertex_fits : (a v : ℕ) → IsMember v (here g a) → edges_fit (site_of s g known a).kind (vertex_of g known v).out ≡ true
  vertex_fits a v m =
      let below = site_below g.index g.keys.items rest.graph.listed.index a g.tags v m in
      let l = below.0 in
      let rows = rest.rows in
      let of = known_some (pred_at known v) (rest.settled.known v (omega (arith, rows, l))) in
      let preds = preds_here g known a in
      let i = instr_at s.image a in
      let out = (vertex_of g known v).out in
      let long : length out ≡ length (cases_at known v) = long_map (edge_to g) (items_at g.targets.items v) ∙ row_long s g known v (rest.settled.led v) in
      let made = cases_of s g known entry f rest built v l of.0 of.1 in
      made_fit s a preds (lines_at s a preds) i of.0 (cases_at known v) out (line_kind s.image (kind_at s a i preds) i preds) (rest.formed.preds v of.0 of.1) long
      (subst (λ b. option_map (map round_case) (cases_here s.image (lines_at s b (preds_here g known b)) (instr_at s.image b) of.0) ≡ Some (cases_at known v)) below.1 made)

  -- a site is in form
  site_formed : (a v : ℕ) → v < length g.keys.items → address_at g.keys.items v ≡ a → IsLookedSite (site_of s g known a) → IsSite (site_of s g known a)
  site_formed a v l e looked =
      let preds = preds_here g known a in
      let i = instr_at s.image a in
      let x = site_of s g known a in
      let lines = are_lines s.image (kind_at s a i preds) i preds (preds_formed a) in
      let long = long_map (vertex_of g known) (here g a) in
      let some = subst (λ b. 1 ≤ length (here g b)) e (some_here s g known entry rest v l) in
      let few = few_here s g known entry rest a in
      record {
        addr = looked.addr;
        kind = looked.kind;
        seps = are_pairs x.seps looked.seps lines.pairs;
        seps_fit = lines.seps;
        fork = tt;
        fork_fits = or_right (may_fork x.kind);
        keeps = are_regions x.keeps looked.keeps lines.regions;
        keeps_fit = lines.keeps;
        vertices = each_mapped (vertex_of g known) IsLookedVertex (IsVertex x.kind) (here g a)
            (λ u m k. record { pred = k.pred; edges = k.edges; fits = vertex_fits a u m }) looked.vertices;
        vertices_fit = and_from (nat_le 1 (length x.vertices)) (nat_le (length x.vertices) most_vertices)
            (le-leb 1 (length x.vertices) (omega (arith, long, some))) (le-leb (length x.vertices) most_vertices (omega (arith, long, few)));
      }

  site_at_one : (a : ℕ) → IsMember a built.addresses → IsLookedSite (site_of s g known a) → IsSite (site_of s g known a)
  site_at_one a m looked =
      let of = (built.all.exact a).0 (contains_from a built.addresses m) in
      site_formed a of.0 of.1 of.2 looked

  addresses_back : (as' : List ℕ) → map (λ (x : Site). x.addr) (map (site_of s g known) as') ≡ as'
  addresses_back [] = refl
  addresses_back (a ∷ as') = ap (λ bs. a ∷ bs) (addresses_back as')

  pub has_sites : AreLooked f → HasSites f
  has_sites looked =
      let below = built.below in
      let above = built.above in
      let first = (built.all.exact (address_at g.keys.items 0)).1 (0, get_within g.keys.items 0 (record { address = entry; tag = 0 }) rest.begins, refl) in
      let more = first.1 in
      let long = ap (λ (xs : List Site). length xs) built.sites ∙ long_map (site_of s g known) built.addresses in
      record {
        below = omega (arith, below);
        above = omega (arith, above);
        some = omega (arith, long, more);
        sites = subst (Each IsSite) (sym built.sites) (each_mapped (site_of s g known) IsLookedSite IsSite built.addresses site_at_one (subst (Each IsLookedSite) built.sites looked.sites));
        ascending = subst Ascends (sym (ap (map (λ (x : Site). x.addr)) built.sites ∙ addresses_back built.addresses)) built.all.ascend;
      }

pub form : FormLaw
form s g known entry f rest built looked = record {
  entry = looked.entry;
  body = subst (λ o. HasBody o f) (sym built.unrefused) (has_sites s g known entry f rest built looked);
}
