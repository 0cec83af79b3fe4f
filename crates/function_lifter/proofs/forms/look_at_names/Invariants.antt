use Rattle.std.proofs.Common.{take}
use Rattle.graph_data.specs.Parts.{Each}
use Rattle.sym_terms.specs.Normal.{IsTerm}
use Rattle.function_lifter.proofs.forms.look_at_names.Given as goal

abbrev pub invariant-loop-name : goal.invariant-loop-name
invariant-loop-name l = Each IsTerm (take l.name-index l.names)
