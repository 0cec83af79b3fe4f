use Rattle.std.proofs.Common.{◌≡◌}
use Rattle.std.specs.Prelude.{Some, slice_get}
use Rattle.simulation.specs.World.{Calling}
use Rattle.simulation.specs.Valid.{CallHolds}
use Rattle.simulation_example.specs.Example.{example, rules}
use Rattle.simulation_example.proofs.SiteLemmas.{placed}
use Rattle.simulation_example.proofs.check.call_site.Goals as goal

pub returns-then-is_call : goal.returns-then-is_call
returns-then-is_call c =
    let at : slice_get c.args.image.now.code.items c.args.site.now.address ≡ Some c.in-Some.instr = cc in
    let called = (c.has_callee.ensures c.args.image.now).0 (cc) in
    let here = placed c.args.image.now c.args.function.now c.args.site.now c.in-Some.instr (λ class. class ≡ Calling) (λ place. CallHolds (example c.args.image.now) (rules c.args.image.now) place c.args.target) c.calls_hold.result at (c.is_call.ensures.0 c.if-is_call.true) (c.calls_hold.ensures c.args.image.now) in
    (λ yes. (called, here.0 yes), λ both. here.1 both.1)
