use Rattle.std.proofs.Common.{take}
use Rattle.graph_data.specs.Parts.{Each}
use Rattle.graph_data.specs.WellFormed.{IsKnown}
use Rattle.function_lifter.proofs.forms.look_at_registers.Given as goal

abbrev pub invariant-loop-term : goal.invariant-loop-term
invariant-loop-term l = Each IsKnown (take l.term-index l.terms)
