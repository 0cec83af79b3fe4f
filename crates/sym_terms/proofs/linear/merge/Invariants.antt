use Rattle.std.proofs.Common.{◌≡◌, ◌≤◌, ◌+◌, ◌-◌, length, drop}
use Rattle.sym_terms.specs.View.{pieces}
use Rattle.sym_terms.specs.Normal.{plus_times_pieces}
use Rattle.sym_terms.proofs.MergeLemmas.{front}
use Rattle.sym_terms.proofs.linear.merge.Given as goal

abbrev pub invariant-loop-i : goal.invariant-loop-i
invariant-loop-i l =
    (l.i ≤ length l.left) × (l.j ≤ length l.right)
    × (front l.out (plus_times_pieces (pieces (drop l.i l.left)) l.factor (pieces (drop l.j l.right))) ≡ plus_times_pieces (pieces l.left) l.factor (pieces l.right))

abbrev pub decreases-loop-i : goal.decreases-loop-i
decreases-loop-i l = length l.left - l.i + (length l.right - l.j)
