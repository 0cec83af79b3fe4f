use Rattle.std.proofs.Common.{◌≡◌, take, ◌+◌, ◌*◌}
use Rattle.sym_terms.specs.View.{plain, pieces}
use Rattle.sym_terms.specs.Nodes.{nodes, nodes_of_pieces, nodes_of_atom}
use Rattle.sym_terms.proofs.sum.+copy.Given as goal

abbrev pub invariant-copy_items-loop-atom : goal.invariant-copy_items-loop-atom
invariant-copy_items-loop-atom l = l.copies ≡ take l.atom-index l.atoms

abbrev pub decreases-Sum::copy : goal.decreases-Sum::copy
decreases-Sum::copy l = 3 * nodes l.self.now

abbrev pub decreases-Atom::copy : goal.decreases-Atom::copy
decreases-Atom::copy l = 3 * nodes_of_atom (plain l.self.now)

abbrev pub decreases-copy_pieces : goal.decreases-copy_pieces
decreases-copy_pieces l = 3 * nodes_of_pieces (pieces l.atoms.now) + 2

abbrev pub decreases-copy_items : goal.decreases-copy_items
decreases-copy_items l = 3 * nodes_of_pieces (pieces l.atoms.now) + 1
