-- The bytes of the segments so far are counted.
use Rattle.std.proofs.Common.{◌≡◌, sum_by, take}
use Rattle.report.specs.Coverage.{code_size}
use Rattle.report.specs.Counts.{capped}
use Rattle.report.proofs.counts.code_bytes.Given as goal

abbrev pub invariant-loop-segment : goal.invariant-loop-segment
invariant-loop-segment l =
    l.count ≡ capped (sum_by code_size (take l.segment-index l.segment-items))
