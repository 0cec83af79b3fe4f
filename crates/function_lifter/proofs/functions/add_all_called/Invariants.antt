use Rattle.std.proofs.Common.{◌≡◌, ◌<◌, ℕ, false, slice_index_or}
use Rattle.site_lines.specs.Subject.{is_listed}
use Rattle.function_lifter.specs.Tasks.{IsPending, Keeps}
use Rattle.function_lifter.proofs.functions.add_all_called.Given as goal

abbrev pub invariant-loop-target : goal.invariant-loop-target
invariant-loop-target l = record {
  done : l.task.done ≡ l.initial.task.done;
  keeps : Keeps l.initial.task l.task;
  pending : (k d : ℕ) → k < l.target-index → is_listed (slice_index_or l.targets k d) l.externs ≡ false → IsPending l.task (slice_index_or l.targets k d);
}
