use Rattle.std.proofs.Common.{◌≡◌, take}
use Rattle.predicates.proofs.bound.copy_bounds.Given as goal

abbrev pub invariant-loop-bound : goal.invariant-loop-bound
invariant-loop-bound l = l.copies ≡ take l.bound-index l.bounds
