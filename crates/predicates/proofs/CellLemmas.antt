-- No node is missing exactly where each has its like at its place.
use Rattle.std.proofs.Common.{◌≡◌, ℕ, ◌+◌, true, ◌&&◌, List, [], ◌∷◌, Option, Some, None, refl, sym, ap, ◌∙◌, subst, inl, inr}
use Rattle.std.specs.Prelude.{IsSomeAnd, if◌then◌else◌, ◌==◌}
use Rattle.std.specs.Option.{option_and_then, option_map_or, option_or}
use Rattle.std.proofs.lemmas.Bool.{and_parts, and_from, eq-eqb, eqb-true, cond-true}
use Rattle.std.proofs.lemmas.Option.{option_and_then_some, cond_some}
use Rattle.sym_terms.specs.Plain.{PlainSum}
use Rattle.mem_forest.specs.Plain.{PlainForest, none, cell, PlainNode, count}
use Rattle.mem_forest.specs.Shape.{shaped, is_size, are_names, is_formed, precedes}
use Rattle.predicates.specs.Holding.{same_term}
use Rattle.predicates.specs.Places.{comes_first, sibling, node_under, holds_node}
use Rattle.predicates.specs.Missing.{holder, missing_cell}
use Rattle.predicates.proofs.TermLemmas.{same_from, same_itself}
use Rattle.predicates.proofs.PlaceLemmas.{is_keyed, node_of, chosen, IsSingle, single_under, single_rest, node_beside}

-- each node of the second has its like in the first, at its place
abbrev pub HoldsAll : PlainForest → PlainForest → Type 0
HoldsAll f g = (parents : List (PlainSum × ℕ)) (at : PlainSum) (bytes : ℕ) (c : PlainNode) → node_under parents at bytes g ≡ Some c
    → IsSomeAnd (node_under parents at bytes f) (λ d. holds_node d c.names c.value ≡ true)

-- what is known of the node that holds another: where it stands, and that nothing is missing under it
pub record IsFound (f : PlainForest) (at : PlainSum) (bytes : ℕ) (c : PlainNode) : Type 0 where
  pub node : PlainNode
  pub is : sibling at bytes f ≡ Some node
  pub holds : holds_node node c.names c.value ≡ true
  pub place : ℕ
  pub below : missing_cell place node.under c.under ≡ None

-- the holder stands where the node's first name and size say
holder_parts : (f : PlainForest) (ns : List PlainSum) (b : ℕ) (v : Option PlainSum) (d : PlainNode) (at : PlainSum) → holder f ns b v ≡ Some d
    → comes_first at ns ≡ true → (sibling at b f ≡ Some d) × (holds_node d ns v ≡ true)
holder_parts f [] b v d at e k = absurd (cc)
holder_parts f (n ∷ ns) b v d at e k =
    let test : PlainNode → Option PlainNode = λ c. if holds_node c (n ∷ ns) v then Some c else None in
    let P : PlainSum → Type 0 = λ x. (sibling x b f ≡ Some d) × (holds_node d (n ∷ ns) v ≡ true) in
    subst P (same_from n at k) (option_and_then_some test (sibling n b f) d e (λ x q r.
    let both = cond_some (holds_node x (n ∷ ns) v) x d r in
    let Q : PlainNode → Type 0 = λ y. holds_node y (n ∷ ns) v ≡ true in
    (q ∙ ap Some both.1, subst Q both.1 both.0)))

none_or : (o p : Option ℕ) → option_or o p ≡ None → (o ≡ None) × (p ≡ None)
none_or None p e = (refl, e)
none_or (Some x) p e = absurd (cc)

-- where nothing is missing, the holder is there, and nothing is missing under it or beside the node
record IsHeld (n : ℕ) (f : PlainForest) (ns : List PlainSum) (b : ℕ) (v : Option PlainSum) (under rest : PlainForest) : Type 0 where
  node : PlainNode
  is : holder f ns b v ≡ Some node
  below : missing_cell (n + 1) node.under under ≡ None
  beside : missing_cell (n + 1 + count under) f rest ≡ None

held_by : (n : ℕ) (f : PlainForest) (ns : List PlainSum) (b : ℕ) (v : Option PlainSum) (under rest : PlainForest) (o : Option PlainNode) → holder f ns b v ≡ o
    → option_map_or (λ c. option_or (missing_cell (n + 1) c.under under) (missing_cell (n + 1 + count under) f rest)) o (Some n) ≡ None
    → IsHeld n f ns b v under rest
held_by n f ns b v under rest None q e = absurd (cc)
held_by n f ns b v under rest (Some d) q e =
    let both = none_or (missing_cell (n + 1) d.under under) (missing_cell (n + 1 + count under) f rest) e in
    record { node = d; is = q; below = both.0; beside = both.1 }

found : (n : ℕ) (f g : PlainForest) → missing_cell n f g ≡ None → (at : PlainSum) (bytes : ℕ) (c : PlainNode) → sibling at bytes g ≡ Some c → IsFound f at bytes c
found n f none e at bytes c h = absurd (cc)
found n f (cell ns b v under rest) e at bytes c h =
    let held = held_by n f ns b v under rest (holder f ns b v) refl e in
    elim (chosen (is_keyed at bytes ns b) (node_of ns b v under) (sibling at bytes rest) c h) as (λ w. IsFound f at bytes c) [
      | inl q ↦
          let key = and_parts (b == bytes) (comes_first at ns) q.0 in
          let parts = holder_parts f ns b v held.node at held.is key.1 in
          let P : ℕ → Type 0 = λ x. sibling at x f ≡ Some held.node in
          let F : PlainNode → Type 0 = λ x. IsFound f at bytes x in
          subst F q.1 (record { node = held.node; is = subst P (eqb-true b bytes key.0) parts.0; holds = parts.1; place = n + 1; below = held.below })
      | inr q ↦ found (n + 1 + count under) f rest held.beside at bytes c q.1
    ]

-- where nothing is missing, each node has its like at its place
pub all_from_none : (f g : PlainForest) (n : ℕ) → missing_cell n f g ≡ None → HoldsAll f g
all_from_none f g n e [] at bytes c h =
    let r = found n f g e at bytes c h in
    let P : Option PlainNode → Type 0 = λ o. IsSomeAnd o (λ d. holds_node d c.names c.value ≡ true) in
    subst P (sym r.is) r.holds
all_from_none f g n e (k ∷ ks) at bytes c h =
    let below : PlainNode → Option PlainNode = λ x. node_under ks at bytes x.under in
    let P : Option PlainNode → Type 0 = λ o. IsSomeAnd (option_and_then below o) (λ d. holds_node d c.names c.value ≡ true) in
    option_and_then_some below (sibling k.0 k.1 g) c h (λ x q r.
    let found_there = found n f g e k.0 k.1 x q in
    subst P (sym found_there.is) (all_from_none found_there.node.under x.under found_there.place found_there.below ks at bytes c r))

some_and : {R : Type 0} (o : Option PlainNode) (P : PlainNode → Type 0) → IsSomeAnd o P → ((d : PlainNode) → o ≡ Some d → P d → R) → R
some_and None P h k = absurd h
some_and (Some d) P h k = k d refl h

-- where each node has its like at its place, nothing is missing
pub none_from_all : (n : ℕ) (f g : PlainForest) → IsSingle g → shaped g ≡ true → HoldsAll f g → missing_cell n f g ≡ None
none_from_all n f none s e h = refl
none_from_all n f (cell [] b v under rest) s e h =
    let own = and_parts (is_formed [] b && precedes [] b rest) (shaped under && shaped rest) e in
    let formed = and_parts (is_formed [] b) (precedes [] b rest) own.0 in
    let named = and_parts (is_size b) (are_names []) formed.0 in
    absurd (cc)
none_from_all n f (cell (m ∷ ms) b v under rest) s e h =
    let ns : List PlainSum = m ∷ ms in
    let own = and_parts (is_formed ns b && precedes ns b rest) (shaped under && shaped rest) e in
    let levels = and_parts (shaped under) (shaped rest) own.1 in
    let key = and_from (b == b) (same_term m m) (eq-eqb b b refl) (same_itself m) in
    let node : PlainNode = node_of ns b v under in
    let here : sibling m b (cell ns b v under rest) ≡ Some node = cond-true (is_keyed m b ns b) (Some node) (sibling m b rest) key in
    some_and (sibling m b f) (λ d. holds_node d ns v ≡ true) (h [] m b node here) (λ d q holds.
    let test : PlainNode → Option PlainNode = λ c. if holds_node c ns v then Some c else None in
    let is : holder f ns b v ≡ Some d = ap (option_and_then test) q ∙ cond-true (holds_node d ns v) (Some d) None holds in
    let below : missing_cell (n + 1) d.under under ≡ None = none_from_all (n + 1) d.under under (single_under ns b v under rest s) levels.0 (λ ks at bytes c k.
    let deeper : PlainNode → Option PlainNode = λ x. node_under ks at bytes x.under in
    let P : Option PlainNode → Type 0 = λ o. IsSomeAnd (option_and_then deeper o) (λ x. holds_node x c.names c.value ≡ true) in
    subst P q (h ((m, b) ∷ ks) at bytes c (ap (option_and_then deeper) here ∙ k))) in
    let beside : missing_cell (n + 1 + count under) f rest ≡ None =
    none_from_all (n + 1 + count under) f rest (single_rest ns b v under rest s) levels.1 (λ ks at bytes c k. h ks at bytes c (node_beside ks at bytes ns b v under rest c s k)) in
    ap (λ o. option_map_or (λ c. option_or (missing_cell (n + 1) c.under under) (missing_cell (n + 1 + count under) f rest)) o (Some n)) is
    ∙ ap (λ o. option_or o (missing_cell (n + 1 + count under) f rest)) below ∙ beside)
