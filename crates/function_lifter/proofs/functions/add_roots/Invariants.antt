use Rattle.std.proofs.Common.{◌≡◌, ◌<◌, ℕ, slice_index_or}
use Rattle.function_lifter.specs.Tasks.{IsPending}
use Rattle.function_lifter.proofs.functions.add_roots.Given as goal

abbrev pub invariant-loop-root : goal.invariant-loop-root
invariant-loop-root l = record {
  done : l.task.done ≡ l.initial.task.done;
  pending : (k d : ℕ) → k < l.root-index → IsPending l.task (slice_index_or l.roots k d);
}
