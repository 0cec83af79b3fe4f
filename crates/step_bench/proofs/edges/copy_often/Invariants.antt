use Rattle.std.proofs.Common.{◌≤◌}
use Rattle.step_bench.proofs.edges.copy_often.Given as goal

abbrev pub invariant-loop : goal.invariant-loop
invariant-loop l = l.copies ≤ l.counter
