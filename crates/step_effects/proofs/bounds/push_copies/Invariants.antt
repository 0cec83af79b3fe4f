use Rattle.std.proofs.Common.{◌≡◌, ◌++◌, take}
use Rattle.step_effects.proofs.bounds.push_copies.Given as goal

abbrev pub invariant-loop-bound : goal.invariant-loop-bound
invariant-loop-bound l = l.out ≡ l.initial.out ++ take l.bound-index l.bounds
