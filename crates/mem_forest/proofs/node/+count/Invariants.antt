use Rattle.std.proofs.Common.{◌≡◌, ◌+◌, drop}
use Rattle.mem_forest.specs.Plain.{cells, count}
use Rattle.mem_forest.proofs.node.+count.Given as goal

abbrev pub invariant-loop-node : goal.invariant-loop-node
invariant-loop-node l = l.total + count (cells (drop l.node-index l.nodes)) ≡ count (cells l.nodes)
