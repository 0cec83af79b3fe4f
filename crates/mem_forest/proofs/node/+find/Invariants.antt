use Rattle.std.proofs.Common.{◌≡◌, drop}
use Rattle.mem_forest.specs.Plain.{cells}
use Rattle.mem_forest.specs.Search.{find}
use Rattle.mem_forest.proofs.node.+find.Given as goal

abbrev pub invariant-loop-node : goal.invariant-loop-node
invariant-loop-node l =
    find l.region.at l.region.bytes (cells (drop l.node-index l.nodes)) ≡ find l.region.at l.region.bytes (cells l.nodes)
