use Rattle.std.proofs.Common.{◌≡◌}
use Rattle.step_values.proofs.after.own_registers.Given as goal

abbrev pub invariant-loop-register : goal.invariant-loop-register
invariant-loop-register l = l.out.items ≡ l.yielded
