use Rattle.function_lifter.proofs.TaskLemmas.{task_kept}
use Rattle.function_lifter.proofs.functions.lift_waiting.Goals as goal

pub loop-preserved : goal.loop-preserved
loop-preserved c = record {
  task = λ task. task_kept c.args.image.now c.args.externs.now c.lift_next.new.task c.strike.new.task c.strike.ensures.done c.strike.ensures.keeps
      (c.in_ok-lift_next.ensures.task (c.loop.invariant.task task));
  keeps = λ n p. c.strike.ensures.keeps n (c.in_ok-lift_next.ensures.keeps n (c.loop.invariant.keeps n p));
}
