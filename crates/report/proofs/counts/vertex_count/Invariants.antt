-- The vertices of the functions so far are counted.
use Rattle.std.proofs.Common.{◌≡◌, sum_by, take}
use Rattle.report.specs.Counts.{capped, vertices_in}
use Rattle.report.proofs.counts.vertex_count.Given as goal

abbrev pub invariant-loop-function : goal.invariant-loop-function
invariant-loop-function l =
    l.count ≡ capped (sum_by vertices_in (take l.function-index l.functions))
