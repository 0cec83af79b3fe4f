use Rattle.std.proofs.Common.{◌≡◌, ◌+◌, ◌≤◌, drop}
use Rattle.mem_forest.specs.Plain.{cells, count}
use Rattle.mem_forest.specs.Search.{count_at}
use Rattle.mem_forest.proofs.node.+count_at.Given as goal

abbrev pub invariant-count_holders-loop-node : goal.invariant-count_holders-loop-node
invariant-count_holders-loop-node l = record {
  rest : l.total + count_at l.at l.bytes (cells (drop l.node-index l.nodes)) ≡ count_at l.at l.bytes (cells l.nodes);
  room : l.total + count (cells (drop l.node-index l.nodes)) ≤ count (cells l.nodes);
}
