-- What makes nodes a forest: their number, their form, their order, and that each region stands once.
use Rattle.std.specs.Prelude.{ℕ, ◌-◌, ◌≤◌, Bool, true, ◌&&◌, ◌||◌, ◌==◌, nat_le, IsTrue, if◌then◌else◌, Option, Some, None, List, [], ◌∷◌, length}
use Rattle.std.specs.declared.cmp.Ordering.{Ordering}
use Rattle.std.specs.declared.cmp.Ordering.TheVariants.{Equal}
use Rattle.std.specs.Ordering.{is_lt, ordering_then, nat_cmp}
use Rattle.sym_terms.specs.Plain.{PlainSum}
use Rattle.sym_terms.specs.Order.{sum_cmp}
use Rattle.mem_forest.specs.Plain.{PlainForest, none, cell, count}
use Rattle.mem_forest.specs.Search.{count_at}

-- the sizes of a region, in bytes
abbrev pub is_size : ℕ → Bool
is_size b = (b == 1) || ((b == 2) || ((b == 4) || (b == 8)))

-- whether each name is before the next
abbrev pub ascending : List PlainSum → Bool
ascending [] = true
ascending (n ∷ []) = true
ascending (n ∷ m ∷ ms) = is_lt (sum_cmp n m) && ascending (m ∷ ms)

-- whether there are 1 to 8 names, ascending
abbrev pub are_names : List PlainSum → Bool
are_names ns = nat_le 1 (length ns) && (nat_le (length ns) 8 && ascending ns)

-- whether names and size are those of a node
abbrev pub is_formed : List PlainSum → ℕ → Bool
is_formed ns b = is_size b && are_names ns

-- the order by first names
abbrev pub first_cmp : List PlainSum → List PlainSum → Ordering
first_cmp [] ms = Equal
first_cmp (n ∷ ns) [] = Equal
first_cmp (n ∷ ns) (m ∷ ms) = sum_cmp n m

-- whether a node stands before another of its level: by first name, then size
abbrev pub comes_before : List PlainSum → ℕ → List PlainSum → ℕ → Bool
comes_before ns b ms c = is_lt (ordering_then (first_cmp ns ms) (nat_cmp b c))

-- whether a node stands before the first of the rest of its level
abbrev pub precedes : List PlainSum → ℕ → PlainForest → Bool
precedes ns b none = true
precedes ns b (cell ms c v under rest) = comes_before ns b ms c

-- whether each node has its form and stands before the next of its level
abbrev pub shaped : PlainForest → Bool
shaped none = true
shaped (cell ns b v under rest) = (is_formed ns b && precedes ns b rest) && (shaped under && shaped rest)

-- what a `Forest` holds: at most 64 nodes in form and order, and at most one of them at each region
pub record IsForest (f : PlainForest) : Type 0 where
  pub few : count f ≤ 64
  pub in_form : IsTrue (shaped f)
  pub single : (at : PlainSum) (bytes : ℕ) → count_at at bytes f ≤ 1

-- what is left of a number of places behind one for each node, where they suffice
abbrev pub left_after : ℕ → PlainForest → Option ℕ
left_after room f = if nat_le (count f) room then Some (room - count f) else None

-- whether at most one node of a forest has the size and any one of the names
abbrev pub is_unique : PlainForest → ℕ → List PlainSum → Bool
is_unique f b [] = true
is_unique f b (n ∷ ns) = nat_le (count_at n b f) 1 && is_unique f b ns

-- whether that holds for the names of each node of the second
abbrev pub all_alone : PlainForest → PlainForest → Bool
all_alone f none = true
all_alone f (cell ns b v under rest) = is_unique f b ns && (all_alone f under && all_alone f rest)
