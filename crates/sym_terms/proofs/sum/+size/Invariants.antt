use Rattle.std.proofs.Common.{◌≡◌, ◌+◌, drop, ◌*◌}
use Rattle.sym_terms.specs.View.{plain, pieces}
use Rattle.sym_terms.specs.Nodes.{nodes, nodes_of_pieces, nodes_of_atom}
use Rattle.sym_terms.proofs.sum.+size.Given as goal

abbrev pub invariant-size_of_pieces-loop-atom : goal.invariant-size_of_pieces-loop-atom
invariant-size_of_pieces-loop-atom l =
    l.total + nodes_of_pieces (pieces (drop l.atom-index l.atoms)) ≡ nodes_of_pieces (pieces l.atoms)

abbrev pub decreases-Sum::size : goal.decreases-Sum::size
decreases-Sum::size l = 3 * nodes l.self.now

abbrev pub decreases-Atom::size : goal.decreases-Atom::size
decreases-Atom::size l = 3 * nodes_of_atom (plain l.self.now)

abbrev pub decreases-size_of_pieces : goal.decreases-size_of_pieces
decreases-size_of_pieces l = 3 * nodes_of_pieces (pieces l.atoms.now) + 1
