use Rattle.std.proofs.Common.{take}
use Rattle.graph_data.specs.Parts.{Each}
use Rattle.lifted_exact.specs.Looked.{IsRegionTerm}
use Rattle.function_lifter.proofs.forms.look_at_regions.Given as goal

abbrev pub invariant-loop-region : goal.invariant-loop-region
invariant-loop-region l = Each IsRegionTerm (take l.region-index l.regions)
