use Rattle.std.proofs.Common.{◌≡◌, ◌++◌, drop}
use Rattle.step_rules.specs.Bounds.{inserted}
use Rattle.pred_moves.proofs.bounds.inserted.Given as goal

abbrev pub invariant-loop-at : goal.invariant-loop-at
invariant-loop-at l = l.out ++ inserted l.room l.key l.set (drop l.at l.bounds) ≡ inserted l.room l.key l.set l.bounds
