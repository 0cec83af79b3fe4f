-- A forest whose addresses and values are numbers of terms, as plain data.
use Rattle.std.specs.Prelude.{ℕ, ◌+◌, Option, List, [], ◌∷◌}

-- `spot names bytes value under rest` is a node, the nodes under it and the rest of its level
pub data NumberForest : Type 0 where
  empty : NumberForest
  spot : (names : List ℕ) → (bytes : ℕ) → (value : Option ℕ) → (under : NumberForest) → (rest : NumberForest) → NumberForest

-- one node: the numbers of its addresses, its size, the number of its value where it is known, and the nodes under it
pub record NumberNode : Type 0 where
  pub names : List ℕ
  pub bytes : ℕ
  pub value : Option ℕ
  pub under : NumberForest

-- the nodes of a level, in order
abbrev pub level : List NumberNode → NumberForest
level [] = empty
level (c ∷ cs) = spot c.names c.bytes c.value c.under (level cs)

-- the number of nodes, at all levels
abbrev pub count : NumberForest → ℕ
count empty = 0
count (spot ns b v under rest) = count under + count rest + 1
