-- The parts are small, so 128 bits hold the difference.
use Rattle.std.proofs.Common.{pos, ap, ◌∙◌}
use Rattle.bits_core.proofs.IntegerLemmas.{difference_of_parts, carry_small_at}
use Rattle.bits_core.proofs.arithmetic.exact_difference.Goals as goal

pub returns : goal.returns
returns c =
    let h = c.integer.ensures in
    let i = c.integer-2.ensures in
    difference_of_parts c.integer.result c.integer-2.result c.from-2.result _ _ _
    h.value i.value (c.from-2.ensures ∙ ap pos c.from.ensures)
    (record { least = h.least; most = h.most })
    (record { least = i.least; most = i.most })
    (carry_small_at c.args.borrow c.from.result c.from-2.result c.from.ensures c.from-2.ensures)
