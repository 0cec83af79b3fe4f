use Rattle.std.proofs.Common.{◌≡◌, drop}
use Rattle.step_rules.specs.Calls.{cleared}
use Rattle.pred_step.proofs.calls.clear.Given as goal

abbrev pub invariant-loop-r : goal.invariant-loop-r
invariant-loop-r l = cleared (drop l.r-index l.registers) l.p ≡ cleared l.registers l.initial.p
