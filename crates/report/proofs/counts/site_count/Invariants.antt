-- The sites of the functions so far are counted.
use Rattle.std.proofs.Common.{◌≡◌, sum_by, take}
use Rattle.report.specs.Counts.{capped, sites_in}
use Rattle.report.proofs.counts.site_count.Given as goal

abbrev pub invariant-loop-function : goal.invariant-loop-function
invariant-loop-function l =
    l.count ≡ capped (sum_by sites_in (take l.function-index l.functions))
