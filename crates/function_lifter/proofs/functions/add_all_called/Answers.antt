use Rattle.std.proofs.Common.{◌≡◌, false, sym, subst, arith}
use Rattle.site_lines.specs.Subject.{is_listed}
use Rattle.function_lifter.specs.Tasks.{IsPending}
use Rattle.function_lifter.proofs.functions.add_all_called.Goals as goal

pub returns-clause-pending : goal.returns-clause-pending
returns-clause-pending c target member outside =
    subst (λ n. IsPending c.loop-target.task n) member.2
    (c.loop-target.invariant.pending member.0 target (omega (arith, member.1, c.loop-target-test.false))
    (subst (λ n. is_listed n c.args.externs.now ≡ false) (sym member.2) outside))
