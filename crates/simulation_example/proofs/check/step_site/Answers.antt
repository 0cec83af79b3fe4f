use Rattle.std.proofs.Common.{◌≡◌}
use Rattle.std.specs.Prelude.{Some, slice_get}
use Rattle.simulation.specs.World.{Ordinary}
use Rattle.simulation.specs.Valid.{StepHolds}
use Rattle.simulation_example.specs.Example.{example, rules}
use Rattle.simulation_example.proofs.SiteLemmas.{placed}
use Rattle.simulation_example.proofs.check.step_site.Goals as goal

pub returns-then-is_ordinary : goal.returns-then-is_ordinary
returns-then-is_ordinary c = λ graph.
    let at : slice_get c.args.image.now.code.items c.args.site.now.address ≡ Some c.in-Some.instr = cc in
    placed c.args.image.now c.args.function.now c.args.site.now c.in-Some.instr (λ class. class ≡ Ordinary) (StepHolds (example c.args.image.now) (rules c.args.image.now)) c.steps_hold.result at (c.is_ordinary.ensures.0 c.if-is_ordinary.true) (c.steps_hold.ensures c.args.image.now)
