use Rattle.std.proofs.Common.{take}
use Rattle.mem_forest.specs.Plain.{cells}
use Rattle.graph_data.specs.WellFormed.{HasTerms}
use Rattle.function_lifter.proofs.forms.+look.Given as goal

abbrev pub invariant-look_at_nodes-loop-node : goal.invariant-look_at_nodes-loop-node
invariant-look_at_nodes-loop-node l = HasTerms (cells (take l.node-index l.nodes))
