use Rattle.std.proofs.Common.{◌≡◌, ◌⊎◌}
use Rattle.std.specs.Prelude.{Some, slice_get}
use Rattle.simulation.specs.World.{Calling, System}
use Rattle.simulation.specs.Valid.{AfterHolds}
use Rattle.simulation_example.specs.Example.{example, rules}
use Rattle.simulation_example.proofs.SiteLemmas.{placed}
use Rattle.simulation_example.proofs.check.outside_site.Goals as goal

pub returns-then-is_call_or_syscall : goal.returns-then-is_call_or_syscall
returns-then-is_call_or_syscall c = λ graph.
    let at : slice_get c.args.image.now.code.items c.args.site.now.address ≡ Some c.in-Some.instr = cc in
    placed c.args.image.now c.args.function.now c.args.site.now c.in-Some.instr (λ class. (class ≡ Calling) ⊎ (class ≡ System)) (AfterHolds (example c.args.image.now) (rules c.args.image.now)) c.afters_hold.result at (c.is_call_or_syscall.ensures.0 c.if-is_call_or_syscall.true) (c.afters_hold.ensures c.args.image.now)
