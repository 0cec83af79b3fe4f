use Rattle.std.proofs.Common.{arith}
use Rattle.std.proofs.lemmas.Grind.{common_steps}
use Rattle.wire_io.proofs.ShelfLemmas.{longer, GoesOn-refl}
use Rattle.wire_io.proofs.reading.read_whole.Goals as goal

pub loop-whole-init : goal.loop-whole-init
loop-whole-init g c = record { room = omega (arith, c.in_ok-piece.ensures); front = λ file is. grind (arith, common_steps); shelf = GoesOn-refl _ _ }

pub returns-clause-too_long : goal.returns-clause-too_long
returns-clause-too_long g c _ = longer _ c.loop-whole.whole.items c.args.limit c.loop-whole.invariant.front (omega arith)
