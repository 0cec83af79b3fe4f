-- What the node that is found tells, and what the number of nodes at a region tells.
use Rattle.std.proofs.Common.{◌≡◌, ℕ, ◌+◌, ◌≤◌, ◌↔◌, Bool, true, false, Option, Some, None, refl, sym, ap, subst, arith}
use denote.Ref.{Bor}
use Rattle.std.specs.Prelude.{is_some, IfSome}
use Rattle.std.specs.Int.{from_bool}
use Rattle.std.specs.Option.{option_copied}
use Rattle.sym_terms.specs.Plain.{PlainSum}
use Rattle.mem_forest.specs.Plain.{PlainForest, none, cell, PlainNode, count}
use Rattle.mem_forest.specs.Search.{is_here, find, count_at}

from_bool_below : (t : Bool) → from_bool t ≤ 1
from_bool_below true = omega arith
from_bool_below false = omega arith

-- there are at most as many nodes at a region as there are nodes
pub holders_below : (at : PlainSum) (bytes : ℕ) (f : PlainForest) → count_at at bytes f ≤ count f
holders_below at bytes none = omega arith
holders_below at bytes (cell ns b v under rest) =
    omega (arith, holders_below at bytes under, holders_below at bytes rest, from_bool_below (is_here at bytes ns b))

-- the node at hand, else what is found under it, else what is found beside it
abbrev found_by : Bool → PlainNode → Option PlainNode → Option PlainNode → Option PlainNode
found_by t c o p =
    elim t as (λ t. Option PlainNode) [ true ↦ Some c | false ↦ elim o as (λ o. Option PlainNode) [ Some d ↦ Some d | None ↦ p ] ]

-- whether a node is at the region
abbrev pub IsHere : PlainSum → ℕ → PlainNode → Type 0
IsHere at bytes c = is_here at bytes c.names c.bytes ≡ true

here_by : (at : PlainSum) (bytes : ℕ) (t : Bool) (c : PlainNode) (o p : Option PlainNode) → is_here at bytes c.names c.bytes ≡ t
    → IfSome o (IsHere at bytes) → IfSome p (IsHere at bytes) → IfSome (found_by t c o p) (IsHere at bytes)
here_by at bytes true c o p e h k = e
here_by at bytes false c (Some d) p e h k = h
here_by at bytes false c None p e h k = k

-- the node that is found is at the region
pub find_here : (at : PlainSum) (bytes : ℕ) (f : PlainForest) → IfSome (find at bytes f) (IsHere at bytes)
find_here at bytes none = tt
find_here at bytes (cell ns b v under rest) =
    here_by at bytes (is_here at bytes ns b) (record { names = ns; bytes = b; value = v; under = under }) (find at bytes under) (find at bytes rest) refl
    (find_here at bytes under) (find_here at bytes rest)

none_by : (t : Bool) (c : PlainNode) (o p : Option PlainNode) (h k : ℕ) → (is_some o ≡ false) ↔ (h ≡ 0) → (is_some p ≡ false) ↔ (k ≡ 0)
    → (is_some (found_by t c o p) ≡ false) ↔ (h + from_bool t + k ≡ 0)
none_by true c o p h k a b = (λ e. absurd (cc), λ e. absurd (omega (arith, e)))
none_by false c (Some d) p h k a b = (λ e. absurd (cc), λ e. let q = a.1 (omega (arith, e)) in absurd (cc))
none_by false c None p h k a b = (λ e. let x = a.0 refl in let y = b.0 e in omega (arith, x, y), λ e. b.1 (omega (arith, e)))

-- no node is found exactly where none is at the region
pub find_none : (at : PlainSum) (bytes : ℕ) (f : PlainForest) → (is_some (find at bytes f) ≡ false) ↔ (count_at at bytes f ≡ 0)
find_none at bytes none = (λ e. refl, λ e. refl)
find_none at bytes (cell ns b v under rest) =
    none_by (is_here at bytes ns b) (record { names = ns; bytes = b; value = v; under = under }) (find at bytes under) (find at bytes rest) (count_at at bytes under) (count_at at bytes rest)
    (find_none at bytes under) (find_none at bytes rest)

-- what holds of a value behind a reference
pub copied_if : {A : Type 0} (r : Option (Bor A)) (o : Option A) (P : A → Type 0) → option_copied r ≡ o → IfSome o P → IfSome r (λ x. P x.now)
copied_if None o P e h = tt
copied_if (Some x) o P e h = let Q : Option _ → Type 0 = λ p. IfSome p P in subst Q (sym e) h

-- a value behind a reference is there where the value is
pub copied_some : {A : Type 0} (r : Option (Bor A)) (o : Option A) → option_copied r ≡ o → is_some r ≡ is_some o
copied_some None o e = ap is_some e
copied_some (Some x) o e = ap is_some e
