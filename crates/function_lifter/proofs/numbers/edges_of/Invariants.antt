use Rattle.std.proofs.Common.{◌≡◌, map, take}
use Rattle.graph_data.specs.Parts.{Each}
use Rattle.graph_data.specs.WellFormed.{IsEdge}
use Rattle.lift_graph.specs.Rows.{items_at}
use Rattle.lifted_parts.specs.Built.{edge_to}
use Rattle.function_lifter.proofs.numbers.edges_of.Given as goal

abbrev pub invariant-loop-target : goal.invariant-loop-target
invariant-loop-target l = record {
  value : l.out ≡ take l.target-index (map (edge_to l.graph) (items_at l.graph.targets.items l.vertex));
  fits : Each IsEdge l.out;
}
