-- The halves of the shifted number do not overlap, and 128 bits hold it.
use Rattle.bits_core.proofs.ShiftLemmas.{turned_in_128}
use Rattle.bits_core.proofs.shifts.turned.Goals as goal

pub returns : goal.returns
returns c = turned_in_128 c.args.w c.args.x c.args.by c.from.result c.halves-low.result c.requires.number c.requires.turns c.from.ensures c.halves-low.ensures
