-- What one more name of a node leaves of a forest.
use Rattle.std.specs.Prelude.{ℕ, Bool, false, ◌&&◌, ◌==◌, not, nat_lt, if◌then◌else◌, Option, Some, None, List, [], ◌∷◌, length}
use Rattle.std.specs.declared.cmp.Ordering.TheVariants.{Less, Equal, Greater}
use Rattle.sym_terms.specs.Plain.{PlainSum}
use Rattle.sym_terms.specs.Order.{sum_cmp}
use Rattle.mem_forest.specs.Plain.{PlainForest, none, cell, PlainNode}
use Rattle.mem_forest.specs.Search.{is_here, find, found}
use Rattle.mem_forest.specs.Levels.{insert}

-- ascending names with one more
abbrev pub with_name : PlainSum → List PlainSum → List PlainSum
with_name t [] = t ∷ []
with_name t (n ∷ ns) = elim (sum_cmp t n) as (λ o. List PlainSum) [
  | Less ↦ t ∷ n ∷ ns
  | Equal ↦ n ∷ ns
  | Greater ↦ n ∷ with_name t ns
]

-- the first node at a region has one more name, and the nodes of its level are put in order again
abbrev pub renamed : PlainSum → PlainSum → ℕ → PlainForest → PlainForest
renamed t at b none = none
renamed t at b (cell ns c v under rest) =
    if is_here at b ns c then insert (with_name t ns) c v under rest
    else if found at b under then cell ns c v (renamed t at b under) rest
    else insert ns c v under (renamed t at b rest)

-- whether a node that was found has fewer than 8 names
abbrev pub has_name_left : Option PlainNode → Bool
has_name_left None = false
has_name_left (Some c) = nat_lt (length c.names) 8

-- whether the region at `at` is found with room for a name, that at `t` isn't found, and the sizes are the same
abbrev pub can_alias : PlainSum → ℕ → PlainSum → ℕ → PlainForest → Bool
can_alias t a at b f = has_name_left (find at b f) && ((a == b) && not (found t a f))

-- the first region's address becomes a name of the second's node, where it can
abbrev pub alias : PlainSum → ℕ → PlainSum → ℕ → PlainForest → PlainForest
alias t a at b f = if can_alias t a at b f then renamed t at b f else f
