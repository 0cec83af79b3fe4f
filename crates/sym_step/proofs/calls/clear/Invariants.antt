use Rattle.std.proofs.Common.{◌≡◌, drop}
use Rattle.step_rules.specs.Calls.{cleared}
use Rattle.sym_step.proofs.calls.clear.Given as goal

abbrev pub invariant-loop-r : goal.invariant-loop-r
invariant-loop-r l = cleared (drop l.r-index l.registers) l.after ≡ cleared l.registers l.initial.after
