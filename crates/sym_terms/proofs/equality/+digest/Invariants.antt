use Rattle.std.proofs.Common.{◌≡◌, drop, ◌+◌, ◌*◌}
use Rattle.sym_terms.specs.View.{plain, pieces}
use Rattle.sym_terms.specs.Digest.{digest_after}
use Rattle.sym_terms.specs.Nodes.{nodes, nodes_of_pieces, nodes_of_atom}
use Rattle.sym_terms.proofs.equality.+digest.Given as goal

abbrev pub invariant-digest_after-loop-atom : goal.invariant-digest_after-loop-atom
invariant-digest_after-loop-atom l =
    digest_after l.number (pieces (drop l.atom-index l.atoms)) ≡ digest_after l.before (pieces l.atoms)

abbrev pub decreases-digest : goal.decreases-digest
decreases-digest l = 3 * nodes l.sum.now

abbrev pub decreases-digest_of_atom : goal.decreases-digest_of_atom
decreases-digest_of_atom l = 3 * nodes_of_atom (plain l.atom.now)

abbrev pub decreases-digest_after : goal.decreases-digest_after
decreases-digest_after l = 3 * nodes_of_pieces (pieces l.atoms.now) + 1
