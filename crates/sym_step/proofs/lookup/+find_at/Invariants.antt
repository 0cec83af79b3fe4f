use Rattle.std.proofs.Common.{◌≡◌, drop}
use Rattle.mem_forest.specs.Plain.{cells}
use Rattle.mem_forest.specs.Search.{find}
use Rattle.sym_step.proofs.lookup.+find_at.Given as goal

abbrev pub invariant-loop-node : goal.invariant-loop-node
invariant-loop-node l = find l.at l.bytes (cells (drop l.node-index l.nodes)) ≡ find l.at l.bytes (cells l.nodes)
