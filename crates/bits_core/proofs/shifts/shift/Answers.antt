-- A number is turned right as it is turned left by the rest of the width.
use Rattle.std.proofs.Common.{◌%◌, ◌≤◌, arith}
use Rattle.bits_core.specs.Width.{bits_of}
use Rattle.bits_core.specs.LowBits.{cut_of}
use Rattle.bits_core.proofs.ShiftLemmas.{turned_by_rest}
use Rattle.bits_core.proofs.shifts.shift.Goals as goal

pub returns-in-Ror : goal.returns-in-Ror
returns-in-Ror c =
    let f = c.bits-in-Ror.ensures in
    let g = c.bits-in-Ror-2.ensures in
    let within : c.masked-by.result % bits_of c.args.w ≤ bits_of c.args.w = omega (arith, f.value, f.least) in
    cc (turned_by_rest c.args.w (cut_of c.args.w c.args.a) (c.masked-by.result % bits_of c.args.w) within, c.turned-in-Ror.ensures, f.value, g.value, c.cut-in-Ror.ensures, c.masked-by.ensures.value, c.in-Ror.is)
