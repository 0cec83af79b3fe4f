use Rattle.std.proofs.Common.{◌≡◌, length, drop, ◌+◌, ◌*◌}
use Rattle.sym_terms.specs.View.{plain, pieces}
use Rattle.sym_terms.specs.Order.{pieces_cmp}
use Rattle.sym_terms.specs.Nodes.{nodes, nodes_of_pieces, nodes_of_atom}
use Rattle.sym_terms.proofs.sum.+compare.Given as goal

abbrev pub invariant-compare_pieces-loop-a : goal.invariant-compare_pieces-loop-a
invariant-compare_pieces-loop-a l =
    (goal.iterator-compare_pieces-loop-a).can_next l.a-iterator
    × (goal.iterator-compare_pieces-loop-a).is_finite l.a-iterator
    × (pieces_cmp (pieces (drop (length l.yielded) l.left)) (pieces (drop (length l.yielded) l.right)) ≡ pieces_cmp (pieces l.left) (pieces l.right))

abbrev pub decreases-Sum::compare : goal.decreases-Sum::compare
decreases-Sum::compare l = 3 * nodes l.self.now

abbrev pub decreases-Atom::compare : goal.decreases-Atom::compare
decreases-Atom::compare l = 3 * nodes_of_atom (plain l.self.now)

abbrev pub decreases-compare_pieces : goal.decreases-compare_pieces
decreases-compare_pieces l = 3 * nodes_of_pieces (pieces l.left.now) + 1
