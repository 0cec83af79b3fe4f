use Rattle.std.proofs.Common.{◌≡◌, take}
use Rattle.step_values.proofs.bounds.copies.Given as goal

abbrev pub invariant-loop-bound : goal.invariant-loop-bound
invariant-loop-bound l = l.out.items ≡ take l.bound-index l.bounds
