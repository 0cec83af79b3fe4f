use Rattle.std.proofs.Common.{◌≡◌, drop, ◌+◌, ◌*◌}
use Rattle.sym_terms.specs.View.{plain, pieces}
use Rattle.sym_terms.specs.Mentions.{mentions_in_pieces}
use Rattle.sym_terms.specs.Nodes.{nodes, nodes_of_pieces, nodes_of_atom}
use Rattle.sym_terms.proofs.sum.+mentions.Given as goal

abbrev pub invariant-mentions_in_pieces-loop-atom : goal.invariant-mentions_in_pieces-loop-atom
invariant-mentions_in_pieces-loop-atom l =
    mentions_in_pieces l.symbol (pieces (drop l.atom-index l.atoms)) ≡ mentions_in_pieces l.symbol (pieces l.atoms)

abbrev pub decreases-Sum::mentions : goal.decreases-Sum::mentions
decreases-Sum::mentions l = 3 * nodes l.self.now

abbrev pub decreases-Atom::mentions : goal.decreases-Atom::mentions
decreases-Atom::mentions l = 3 * nodes_of_atom (plain l.self.now)

abbrev pub decreases-mentions_in_pieces : goal.decreases-mentions_in_pieces
decreases-mentions_in_pieces l = 3 * nodes_of_pieces (pieces l.atoms.now) + 1
