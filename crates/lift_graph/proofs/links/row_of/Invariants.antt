use Rattle.std.proofs.Common.{take}
use Rattle.lift_graph.specs.Graph.{IsListed}
use Rattle.lift_graph.specs.Links.{IsRow}
use Rattle.lift_graph.proofs.links.row_of.Given as goal

abbrev pub invariant-loop-key : goal.invariant-loop-key
invariant-loop-key l =
    record {
      listed : IsListed l.graph;
      row : IsRow l.fn.graph l.graph (take l.key-index l.keys) l.row.items;
    }
