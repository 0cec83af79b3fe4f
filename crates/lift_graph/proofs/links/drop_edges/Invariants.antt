use Rattle.std.proofs.Common.{◌≡◌, length}
use Rattle.lift_graph.specs.Rows.{items_at}
use Rattle.lift_graph.proofs.links.drop_edges.Given as goal

abbrev pub invariant-loop-target : goal.invariant-loop-target
invariant-loop-target l =
    record {
      rows : length l.inward.items ≡ length l.fn.inward.items;
      entry : items_at l.inward.items 0 ≡ items_at l.fn.inward.items 0;
    }
