-- The functions so far are counted.
use Rattle.std.proofs.Common.{◌≡◌, sum_by, take}
use Rattle.report.specs.Counts.{capped, stands}
use Rattle.report.proofs.counts.function_count.Given as goal

abbrev pub invariant-loop-function : goal.invariant-loop-function
invariant-loop-function l =
    l.count ≡ capped (sum_by stands (take l.function-index l.functions))
