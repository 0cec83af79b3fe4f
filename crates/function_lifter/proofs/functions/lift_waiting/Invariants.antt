use Rattle.function_lifter.specs.Tasks.{IsTask, Keeps}
use Rattle.function_lifter.proofs.functions.lift_waiting.Given as goal

abbrev pub invariant-loop : goal.invariant-loop
invariant-loop l = record {
  task : IsTask l.image l.externs l.fn.task → IsTask l.image l.externs l.task;
  keeps : Keeps l.fn.task l.task;
}
