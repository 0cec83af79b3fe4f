use Rattle.std.proofs.Common.{arith}
use Rattle.foxdec_commands.proofs.QuietLemmas.{quiet}
use Rattle.foxdec_commands.proofs.top.foxdec_quiet.Goals as goal

pub returns : goal.returns
returns g c asked due most bytes request known room_is written_is fits =
    quiet _ _ _ _ asked due known (λ name rose. omega (arith, rose)) (λ rose. omega (arith, rose)) c.requires
    _ _ c.foxdec.ensures.room most bytes room_is written_is fits (rw request at c.foxdec.ensures.ends)
