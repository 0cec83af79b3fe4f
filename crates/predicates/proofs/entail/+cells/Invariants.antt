use Rattle.std.proofs.Common.{◌≡◌, ◌+◌, drop}
use Rattle.mem_forest.specs.Plain.{cells, count}
use Rattle.predicates.specs.Missing.{missing_cell}
use Rattle.predicates.proofs.entail.+cells.Given as goal

abbrev pub invariant-loop-node : goal.invariant-loop-node
invariant-loop-node l = record {
  places : l.place + count (cells (drop l.node-index l.wanted)) ≡ l.first + count (cells l.wanted);
  rest : missing_cell l.place (cells l.held) (cells (drop l.node-index l.wanted)) ≡ missing_cell l.first (cells l.held) (cells l.wanted);
}
