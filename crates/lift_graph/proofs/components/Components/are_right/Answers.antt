use Rattle.std.proofs.Common.{◌≤◌, length, below_more}
use Rattle.std.specs.List.{All}
use Rattle.lift_graph.specs.Rows.{items_at}
use Rattle.lift_graph.specs.Components.{ComesDown, LeadsUp, part_of}
use Rattle.lift_graph.proofs.components.Components.are_right.Goals as goal

pub loop-vertex-preserved : goal.loop-vertex-preserved
loop-vertex-preserved c =
    let self = c.args.self.now in
    let inward = c.args.inward.now in
    let before = c.loop-vertex.invariant in
    let i = c.loop-vertex.vertex in
    let right = c.if-not-is_right.false in
    record {
      falls = below_more (λ v. All (λ p. part_of self v ≤ part_of self p.vertex) (items_at inward v)) i before.falls (c.is_right.ensures.falls right);
      up = below_more (LeadsUp inward (length inward) self) i before.up (c.is_right.ensures.up right);
      down = below_more (ComesDown inward (length inward) self) i before.down (c.is_right.ensures.down right);
    }
