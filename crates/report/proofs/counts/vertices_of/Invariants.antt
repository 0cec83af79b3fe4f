-- The vertices of the sites so far are counted.
use Rattle.std.proofs.Common.{◌≡◌, sum_by, take, length}
use Rattle.report.specs.Counts.{capped}
use Rattle.report.proofs.counts.vertices_of.Given as goal

abbrev pub invariant-loop-site : goal.invariant-loop-site
invariant-loop-site l =
    l.count ≡ capped (sum_by (λ s. length s.vertices) (take l.site-index l.site-items))
