use Rattle.std.proofs.Common.{subst}
use Rattle.std.specs.Prelude.{IsSome}
use Rattle.std.specs.Ordering.{nat_cmp}
use Rattle.std.specs.BTreeMap.{get}
use Rattle.function_lifter.proofs.TaskLemmas.{task_kept}
use Rattle.function_lifter.proofs.functions.lift_next.Goals as goal

pub returns-clause-task : goal.returns-clause-task
returns-clause-task c task =
    let lifted = c.in_ok-function.ensures in
    c.in_ok-finish.ensures.task c.args.image.now c.args.externs.now lifted.lifted lifted.called
    (task_kept c.args.image.now c.args.externs.now c.args.task.now c.lift_at.new.task lifted.done lifted.keeps task)

pub returns-clause-keeps : goal.returns-clause-keeps
returns-clause-keeps c n p = c.in_ok-finish.ensures.keeps n (c.in_ok-function.ensures.keeps n p)

pub returns-clause-done : goal.returns-clause-done
returns-clause-done c = subst (λ n. IsSome (get nat_cmp c.finish.new.task.done n)) c.in_ok-function.ensures.entry c.in_ok-finish.ensures.done
