use Rattle.std.proofs.Common.{◌≤◌}
use Rattle.sym_terms_bench.proofs.sums.ascents.Given as goal

abbrev pub invariant-loop-i : goal.invariant-loop-i
invariant-loop-i l = l.ascents ≤ l.i
