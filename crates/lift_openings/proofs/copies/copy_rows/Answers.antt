use Rattle.std.proofs.Common.{◌∙◌}
use Rattle.lift_openings.proofs.CopyLemmas.{copied_more}
use Rattle.lift_openings.proofs.copies.copy_rows.Goals as goal

pub loop-row-preserved : goal.loop-row-preserved
loop-row-preserved g c =
    copied_more (λ row. row.items) (λ row. row.items) c.args.rows.now c.loop-row.row-index c.row-item.result c.loop-row.copies.items c.push.new.self.items c.in_ok-from_slice.field-0
    c.loop-row-test.true c.row-item.is c.loop-row.invariant (c.in_ok-from_slice.ensures.items ∙ c.as_slice.ensures.value) c.in_ok-push.ensures.items
