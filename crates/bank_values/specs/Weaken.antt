-- What is left of a predicate of numbers where only what another says stays, when equal terms are equal numbers.
use Rattle.std.specs.Prelude.{ℕ, Bool, true, false, ◌&&◌, ◌==◌, if◌then◌else◌, Option, Some, None, List, [], ◌∷◌}
use Rattle.std.specs.List.{list_all, list_any}
use Rattle.std.specs.Option.{option_and_then}
use Rattle.bits_core.specs.declared.width.Width.{Width}
use Rattle.bits_core.specs.Width.{bits_of}
use Rattle.predicates.specs.declared.bound.Values.{Values}
use Rattle.predicates.specs.Holding.{are_within}
use Rattle.bank_values.specs.Numbered.{NumberForest, empty, spot, NumberNode}

-- whether the second, where there is one, is the first
abbrev pub holds_number : Option ℕ → Option ℕ → Bool
holds_number held None = true
holds_number None (Some wanted) = false
holds_number (Some held) (Some wanted) = held == wanted

-- the numbers that are the same in the first list
abbrev pub weaker_numbers : List (Option ℕ) → List (Option ℕ) → List (Option ℕ)
weaker_numbers held [] = []
weaker_numbers [] (n ∷ ns) = None ∷ weaker_numbers [] ns
weaker_numbers (h ∷ hs) (n ∷ ns) = (if holds_number h n then n else None) ∷ weaker_numbers hs ns

-- whether the second flag fact, where there is one, is the first
abbrev pub holds_fact : Option (Width × ℕ × ℕ) → Option (Width × ℕ × ℕ) → Bool
holds_fact held None = true
holds_fact None (Some wanted) = false
holds_fact (Some held) (Some wanted) =
    (bits_of held.0 == bits_of wanted.0) && ((held.1 == wanted.1) && (held.2 == wanted.2))

-- a flag fact that is the first
abbrev pub weaker_fact : Option (Width × ℕ × ℕ) → Option (Width × ℕ × ℕ) → Option (Width × ℕ × ℕ)
weaker_fact held fact = if holds_fact held fact then fact else None

-- whether one of the bounds has the same key and values within those of another
abbrev pub holds_limit : List (ℕ × Values) → ℕ × Values → Bool
holds_limit held wanted = list_any (λ h. (h.0 == wanted.0) && are_within h.1 wanted.1) held

-- whether a number is among names
abbrev pub has_number : ℕ → List ℕ → Bool
has_number n names = list_any (λ name. name == n) names

-- whether a number is the first of the names
abbrev pub begins_with : ℕ → List ℕ → Bool
begins_with n [] = false
begins_with n (m ∷ ms) = m == n

-- the node of a level with this first name and this size
abbrev pub number_sibling : ℕ → ℕ → NumberForest → Option NumberNode
number_sibling at bytes empty = None
number_sibling at bytes (spot ns b v under rest) =
    if (b == bytes) && begins_with at ns then Some (record { names = ns; bytes = b; value = v; under = under })
    else number_sibling at bytes rest

-- whether a node has these names and, where there is one, this value
abbrev pub holds_numbers : NumberNode → List ℕ → Option ℕ → Bool
holds_numbers c names value = list_all (λ n. has_number n c.names) names && holds_number c.value value

-- the node of a level with a node's first name and size, where it has its names and its value
abbrev pub number_holder : NumberForest → List ℕ → ℕ → Option ℕ → Option NumberNode
number_holder f [] b v = None
number_holder f (n ∷ ns) b v =
    option_and_then (λ c. if holds_numbers c (n ∷ ns) v then Some c else None) (number_sibling n b f)

-- the second forest with exactly the nodes that the first says
abbrev pub weaker_forest : NumberForest → NumberForest → NumberForest
weaker_forest held empty = empty
weaker_forest held (spot ns b v under rest) =
    elim (number_holder held ns b v) as (λ o. NumberForest) [
      | Some c ↦ spot ns b v (weaker_forest c.under under) (weaker_forest held rest)
      | None ↦ weaker_forest held rest
    ]
