-- What the size of a term is, in nodes: 1, and for each atom 1 and the nodes of its arguments.
use Rattle.std.specs.Prelude.{ℕ, ◌+◌}
use Rattle.sym_terms.specs.Plain.{PlainSum, sum, Summands, none, more, PlainAtom, symbol, fitted, paired}

-- the nodes of a term, of its pieces and of one atom
abbrev mutual
  pub nodes : PlainSum → ℕ
  nodes (sum c xs) = nodes_of_pieces xs + 1

  pub nodes_of_pieces : Summands → ℕ
  nodes_of_pieces none = 0
  nodes_of_pieces (more a k xs) = nodes_of_atom a + nodes_of_pieces xs

  pub nodes_of_atom : PlainAtom → ℕ
  nodes_of_atom (symbol s) = 1
  nodes_of_atom (fitted f a) = nodes a + 1
  nodes_of_atom (paired p a b) = nodes a + nodes b + 1
