use Rattle.std.proofs.Common.{◌≡◌, ◌++◌, take}
use Rattle.pred_moves.proofs.bounds.push_all.Given as goal

abbrev pub invariant-loop-bound : goal.invariant-loop-bound
invariant-loop-bound l = l.out ≡ l.initial.out ++ take l.bound-index l.bounds
