use Rattle.std.proofs.Common.{◌≡◌, take}
use Rattle.step_values.proofs.after.kept_registers.Given as goal

abbrev pub invariant-loop-register : goal.invariant-loop-register
invariant-loop-register l = l.out.items ≡ take l.register-index l.regs
