-- What makes recursion down a term end: each argument of an atom has fewer nodes than the term. No clause cites this
-- file.
use Rattle.std.specs.Prelude.{ℕ, ◌≤◌, List, [], ◌∷◌}
use Rattle.std.proofs.Common.{arith}
use denote.Param.Weighed.{most}
use Rattle.sym_terms.specs.declared.sum.Atom.{Atom}
use Rattle.sym_terms.specs.declared.sum.Atom.TheVariants.{Sym, Fit, Pair}
use Rattle.sym_terms.specs.declared.sum.HeldPieces.{HeldPieces}
use Rattle.sym_terms.specs.declared.sum.HeldPieces.TheVariants.{Nothing, One, Several}
use Rattle.sym_terms.specs.declared.sum.PieceList.TheShapes.{weighed-HeldPieces-Several-0-at-2}
use Rattle.sym_terms.specs.declared.sum.PieceList.TheDeep.{deep-Atom, deep-HeldPieces}
use Rattle.sym_terms.specs.Nodes.{nodes_of_pieces, nodes_of_atom}
use Rattle.sym_terms.specs.View.{plain, pieces}
use Rattle.sym_terms.specs.Held.{listed}

-- what an atom holds is no larger than its nodes
deep_le-nodes : (a : Atom) → deep-Atom a ≤ nodes_of_atom (plain a)
deep_le-nodes (Sym s) = omega arith
deep_le-nodes (Fit f a) = omega arith
deep_le-nodes (Pair p a b) = omega arith

-- nor are several pieces
several_le-nodes : (xs : List (Atom × ℕ))
    → most (weighed-HeldPieces-Several-0-at-2.weight Atom deep-Atom) xs ≤ nodes_of_pieces (pieces xs)
several_le-nodes [] = omega arith
several_le-nodes (x ∷ xs) = omega (arith, deep_le-nodes x.0, several_le-nodes xs)

-- nor are those that a sum holds
pub held_le-nodes : (held : HeldPieces) → deep-HeldPieces held ≤ nodes_of_pieces (pieces (listed held))
held_le-nodes Nothing = omega arith
held_le-nodes (One x) = omega (arith, deep_le-nodes x.0)
held_le-nodes (Several xs) = omega (arith, several_le-nodes xs)
