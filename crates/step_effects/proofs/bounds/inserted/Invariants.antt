use Rattle.std.proofs.Common.{◌≡◌, ◌++◌, drop}
use Rattle.step_rules.specs.Bounds.{inserted}
use Rattle.step_effects.proofs.bounds.inserted.Given as goal

abbrev pub invariant-loop-i : goal.invariant-loop-i
invariant-loop-i l = l.out ++ inserted l.room l.key l.set (drop l.i l.bounds) ≡ inserted l.room l.key l.set l.bounds
