use Rattle.std.proofs.Common.{◌+◌, sym, subst, take}
use Rattle.lift_graph.specs.Links.{IsRow}
use Rattle.lift_graph.proofs.LinkLemmas.{row_more}
use Rattle.lift_graph.proofs.links.row_of.Goals as goal

pub loop-key-preserved : goal.loop-key-preserved
loop-key-preserved c = record {
  listed = c.in_ok-vertex.ensures.listed;
  row =
      subst (IsRow c.args.graph.now c.find_or_add.new.graph (take (c.loop-key.key-index + 1) c.args.keys.now)) (sym c.in_ok-push.ensures.items)
      (row_more c.args.graph.now c.loop-key.graph c.find_or_add.new.graph c.args.keys.now c.loop-key.key-index _ c.loop-key.row.items c.in_ok-vertex.vertex c.loop-key-test.true c.loop-key.invariant.row c.in_ok-vertex.ensures.extended c.in_ok-vertex.ensures.found c.in_ok-vertex.ensures.fresh);
}
