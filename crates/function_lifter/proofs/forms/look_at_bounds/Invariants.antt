use Rattle.std.proofs.Common.{take}
use Rattle.graph_data.specs.Parts.{Each}
use Rattle.graph_data.specs.WellFormed.{IsBound}
use Rattle.function_lifter.proofs.forms.look_at_bounds.Given as goal

abbrev pub invariant-loop-bound : goal.invariant-loop-bound
invariant-loop-bound l = Each IsBound (take l.bound-index l.bounds)
