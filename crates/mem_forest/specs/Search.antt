-- Which nodes of a forest are at a region.
use Rattle.std.specs.Prelude.{ℕ, ◌+◌, Bool, true, false, ◌&&◌, ◌||◌, ◌==◌, Option, Some, None, List}
use Rattle.std.specs.Int.{from_bool}
use Rattle.std.specs.Ordering.{is_eq}
use Rattle.std.specs.List.{list_any}
use Rattle.sym_terms.specs.Plain.{PlainSum}
use Rattle.sym_terms.specs.Order.{sum_cmp}
use Rattle.mem_forest.specs.Plain.{PlainForest, none, cell, PlainNode}

-- whether an address is among the names
abbrev pub has_name : PlainSum → List PlainSum → Bool
has_name at names = list_any (λ name. is_eq (sum_cmp name at)) names

-- whether a node with these names and this size is at the region
abbrev pub is_here : PlainSum → ℕ → List PlainSum → ℕ → Bool
is_here at bytes names size = (size == bytes) && has_name at names

-- the first node at the region, each node before those under it
abbrev pub find : PlainSum → ℕ → PlainForest → Option PlainNode
find at bytes none = None
find at bytes (cell ns b v under rest) =
    elim (is_here at bytes ns b) as (λ t. Option PlainNode) [
      | true ↦ Some (record { names = ns; bytes = b; value = v; under = under })
      | false ↦ elim (find at bytes under) as (λ o. Option PlainNode) [ Some c ↦ Some c | None ↦ find at bytes rest ]
    ]

-- the number of nodes at the region, at whatever level
abbrev pub count_at : PlainSum → ℕ → PlainForest → ℕ
count_at at bytes none = 0
count_at at bytes (cell ns b v under rest) =
    count_at at bytes under + from_bool (is_here at bytes ns b) + count_at at bytes rest

-- whether a node is at the region, at whatever level
abbrev pub found : PlainSum → ℕ → PlainForest → Bool
found at bytes none = false
found at bytes (cell ns b v under rest) = is_here at bytes ns b || (found at bytes under || found at bytes rest)

-- the value of a node that was found
abbrev pub value_of_found : Option PlainNode → Option PlainSum
value_of_found None = None
value_of_found (Some c) = c.value

-- the value of the first node at the region; None where there is no node or it has no value
abbrev pub value_at : PlainSum → ℕ → PlainForest → Option PlainSum
value_at at bytes f = value_of_found (find at bytes f)
