-- What a forest is as plain data: a node, the nodes under it, and those beside it.
use Rattle.std.specs.Prelude.{ℕ, ◌+◌, Option, List, [], ◌∷◌}
use Rattle.sym_terms.specs.Plain.{PlainSum}

-- `cell names bytes value under rest` is a node, the nodes under it and the rest of its level
pub data PlainForest : Type 0 where
  none : PlainForest
  cell : (names : List PlainSum) → (bytes : ℕ) → (value : Option PlainSum) → (under : PlainForest) → (rest : PlainForest) → PlainForest

-- one node: its addresses, its size, its value where it is known, and the nodes under it
pub record PlainNode : Type 0 where
  pub names : List PlainSum
  pub bytes : ℕ
  pub value : Option PlainSum
  pub under : PlainForest

-- the nodes of a level, in order
abbrev pub cells : List PlainNode → PlainForest
cells [] = none
cells (c ∷ cs) = cell c.names c.bytes c.value c.under (cells cs)

-- the number of nodes, at all levels
abbrev pub count : PlainForest → ℕ
count none = 0
count (cell ns b v under rest) = count under + count rest + 1
