use Rattle.std.proofs.Common.{◌∙◌, arith}
use Rattle.lift_rounds.proofs.one_round.fill.Goals as goal

pub loop-vertex-preserved : goal.loop-vertex-preserved
loop-vertex-preserved g c =
    let before = c.loop-vertex.invariant in
    let one = c.in_ok-fill_one.ensures in
    record {
      rows = omega (arith, before.rows, one.rows);
      marks = omega (arith, before.marks, one.marks);
      room = omega (arith, before.room, one.room);
      made = one.made;
      preds = λ u. one.preds u ∙ before.preds u;
      cases = λ u. one.cases u ∙ before.cases u;
    }
