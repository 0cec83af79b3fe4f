-- The covered bytes of the segments so far are counted.
use Rattle.std.proofs.Common.{◌≡◌, sum_by, take}
use Rattle.instr_at.specs.At.{instr_at}
use Rattle.report.specs.Coverage.{covered_in}
use Rattle.report.specs.Counts.{capped}
use Rattle.report.proofs.counts.covered_bytes.Given as goal

abbrev pub invariant-loop-segment : goal.invariant-loop-segment
invariant-loop-segment l =
    l.count ≡ capped (sum_by (covered_in (instr_at l.image) l.functions) (take l.segment-index l.segment-items))
