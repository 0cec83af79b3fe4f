-- What makes one node of a level say what another says.
use Rattle.std.specs.Prelude.{ℕ, Bool, true, false, ◌&&◌, ◌==◌, if◌then◌else◌, Option, Some, None, List, [], ◌∷◌}
use Rattle.std.specs.Ordering.{is_eq}
use Rattle.std.specs.List.{list_all}
use Rattle.std.specs.Option.{option_and_then}
use Rattle.sym_terms.specs.Plain.{PlainSum}
use Rattle.sym_terms.specs.Order.{sum_cmp}
use Rattle.mem_forest.specs.Plain.{PlainForest, none, cell, PlainNode}
use Rattle.mem_forest.specs.Search.{has_name}

-- whether two terms are the same
abbrev pub same_term : PlainSum → PlainSum → Bool
same_term a b = is_eq (sum_cmp a b)

-- whether the second, where it is known, is the same term as the first
abbrev pub holds_term : Option PlainSum → Option PlainSum → Bool
holds_term held None = true
holds_term None (Some wanted) = false
holds_term (Some held) (Some wanted) = same_term held wanted

-- whether an address is the first of the names
abbrev pub comes_first : PlainSum → List PlainSum → Bool
comes_first at [] = false
comes_first at (n ∷ ns) = same_term n at

-- the node of a level with this first name and this size
abbrev pub sibling : PlainSum → ℕ → PlainForest → Option PlainNode
sibling at bytes none = None
sibling at bytes (cell ns b v under rest) =
    if (b == bytes) && comes_first at ns then Some (record { names = ns; bytes = b; value = v; under = under })
    else sibling at bytes rest

-- whether a node has these names and, where it is known, this value
abbrev pub holds_node : PlainNode → List PlainSum → Option PlainSum → Bool
holds_node c names value = list_all (λ n. has_name n c.names) names && holds_term c.value value

-- the node of a level with a node's first name and size, where it has its names and its value
abbrev pub holder : PlainForest → List PlainSum → ℕ → Option PlainSum → Option PlainNode
holder f [] b v = None
holder f (n ∷ ns) b v =
    option_and_then (λ c. if holds_node c (n ∷ ns) v then Some c else None) (sibling n b f)

-- the second forest with exactly the nodes that the first says: those with a holder on its level, of which what is under
-- them is weakened by what is under the holder; a node that goes takes those under it
abbrev pub weakened : PlainForest → PlainForest → PlainForest
weakened held none = none
weakened held (cell ns b v under rest) =
    elim (holder held ns b v) as (λ o. PlainForest) [
      | Some c ↦ cell ns b v (weakened c.under under) (weakened held rest)
      | None ↦ weakened held rest
    ]
