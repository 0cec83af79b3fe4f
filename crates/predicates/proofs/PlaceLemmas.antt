-- The nodes of a level, where each region stands once.
use Rattle.std.proofs.Common.{◌≡◌, ℕ, ◌≤◌, Bool, true, false, ◌&&◌, List, [], ◌∷◌, Option, Some, None, refl, sym, ap, ◌∙◌, inl, inr, arith}
use Rattle.std.specs.Prelude.{◌⊎◌, is_some, if◌then◌else◌, ◌==◌}
use Rattle.std.specs.Int.{from_bool}
use Rattle.std.specs.Option.{option_and_then}
use Rattle.std.proofs.lemmas.Bool.{and_parts, and_from, or_left, cases_Bool, cond-false}
use Rattle.sym_terms.specs.Plain.{PlainSum}
use Rattle.mem_forest.specs.Plain.{PlainForest, none, cell, PlainNode}
use Rattle.mem_forest.specs.Search.{has_name, is_here, count_at}
use Rattle.predicates.specs.Holding.{same_term}
use Rattle.predicates.specs.Places.{comes_first, sibling, node_under}

-- whether a node has this first name and this size
abbrev pub is_keyed : PlainSum → ℕ → List PlainSum → ℕ → Bool
is_keyed at bytes ns b = (b == bytes) && comes_first at ns

-- a node by its parts
abbrev pub node_of : List PlainSum → ℕ → Option PlainSum → PlainForest → PlainNode
node_of ns b v under = record { names = ns; bytes = b; value = v; under = under }

-- what is chosen is the first where the test passes, else the other
pub chosen : (t : Bool) (x : PlainNode) (o : Option PlainNode) (c : PlainNode) → (if t then Some x else o) ≡ Some c → ((t ≡ true) × (x ≡ c)) ⊎ ((t ≡ false) × (o ≡ Some c))
chosen true x o c e = let f : x ≡ c = cc in inl (refl, f)
chosen false x o c e = inr (refl, e)

-- each region stands at most once
abbrev pub IsSingle : PlainForest → Type 0
IsSingle f = (at : PlainSum) (bytes : ℕ) → count_at at bytes f ≤ 1

pub single_under : (ns : List PlainSum) (b : ℕ) (v : Option PlainSum) (under rest : PlainForest) → IsSingle (cell ns b v under rest) → IsSingle under
single_under ns b v under rest s at bytes = omega (arith, s at bytes)

pub single_rest : (ns : List PlainSum) (b : ℕ) (v : Option PlainSum) (under rest : PlainForest) → IsSingle (cell ns b v under rest) → IsSingle rest
single_rest ns b v under rest s at bytes = omega (arith, s at bytes)

first_has : (at : PlainSum) (ns : List PlainSum) → comes_first at ns ≡ true → has_name at ns ≡ true
first_has at [] e = absurd (cc)
first_has at (n ∷ ns) e = or_left (same_term n at) (has_name at ns) e

-- a node with this first name and size is at the region
keyed_here : (at : PlainSum) (bytes : ℕ) (ns : List PlainSum) (b : ℕ) → is_keyed at bytes ns b ≡ true → is_here at bytes ns b ≡ true
keyed_here at bytes ns b e =
    let both = and_parts (b == bytes) (comes_first at ns) e in
    and_from (b == bytes) (has_name at ns) both.0 (first_has at ns both.1)

sibling_counts : (at : PlainSum) (bytes : ℕ) (f : PlainForest) → is_some (sibling at bytes f) ≡ true → 1 ≤ count_at at bytes f
sibling_counts at bytes none e = absurd (cc)
sibling_counts at bytes (cell ns b v under rest) e =
    elim (cases_Bool (is_keyed at bytes ns b)) as (λ w. 1 ≤ count_at at bytes (cell ns b v under rest)) [
      | inl q ↦ let one : from_bool (is_here at bytes ns b) ≡ 1 = ap from_bool (keyed_here at bytes ns b q) in omega (arith, one)
      | inr q ↦
          let f = ap is_some (cond-false (is_keyed at bytes ns b) (Some (node_of ns b v under)) (sibling at bytes rest) q) in
          let r = sibling_counts at bytes rest (sym f ∙ e) in
          omega (arith, r)
    ]

-- a node beside the first is found beside it
pub sibling_beside : (at : PlainSum) (bytes : ℕ) (ns : List PlainSum) (b : ℕ) (v : Option PlainSum) (under rest : PlainForest)
    → IsSingle (cell ns b v under rest) → is_some (sibling at bytes rest) ≡ true → sibling at bytes (cell ns b v under rest) ≡ sibling at bytes rest
sibling_beside at bytes ns b v under rest s e =
    elim (cases_Bool (is_keyed at bytes ns b)) as (λ w. sibling at bytes (cell ns b v under rest) ≡ sibling at bytes rest) [
      | inl q ↦
          let one : from_bool (is_here at bytes ns b) ≡ 1 = ap from_bool (keyed_here at bytes ns b q) in
          let more = sibling_counts at bytes rest e in
          let most = s at bytes in
          absurd (omega (arith, one, more, most))
      | inr q ↦ cond-false (is_keyed at bytes ns b) (Some (node_of ns b v under)) (sibling at bytes rest) q
    ]

there : {A B : Type 0} (f : A → Option B) (o : Option A) (y : B) → option_and_then f o ≡ Some y → is_some o ≡ true
there f None y e = absurd (cc)
there f (Some x) y e = refl

-- and so is a node under such a node
pub node_beside : (ks : List (PlainSum × ℕ)) (at : PlainSum) (bytes : ℕ) (ns : List PlainSum) (b : ℕ) (v : Option PlainSum) (under rest : PlainForest) (c : PlainNode)
    → IsSingle (cell ns b v under rest) → node_under ks at bytes rest ≡ Some c → node_under ks at bytes (cell ns b v under rest) ≡ Some c
node_beside [] at bytes ns b v under rest c s e = sibling_beside at bytes ns b v under rest s (ap is_some e) ∙ e
node_beside (k ∷ ks) at bytes ns b v under rest c s e =
    let below : PlainNode → Option PlainNode = λ d. node_under ks at bytes d.under in
    ap (option_and_then below) (sibling_beside k.0 k.1 ns b v under rest s (there below (sibling k.0 k.1 rest) c e)) ∙ e
