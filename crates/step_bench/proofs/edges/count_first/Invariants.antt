use Rattle.std.proofs.Common.{◌≤◌}
use Rattle.step_bench.proofs.edges.count_first.Given as goal

abbrev pub invariant-loop : goal.invariant-loop
invariant-loop l = l.holding ≤ l.counter
