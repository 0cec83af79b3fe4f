use Rattle.std.proofs.Common.{◌≡◌, ◌++◌, take, drop, length}
use Rattle.predicates.specs.Weaken.{weaker_registers}
use Rattle.predicates.proofs.weaken.weaken_registers.Given as goal

abbrev pub invariant-loop-i : goal.invariant-loop-i
invariant-loop-i l = record {
  len : length l.regs ≡ length l.initial.regs;
  weaker : take l.i l.regs ++ weaker_registers (drop l.i l.held) (drop l.i l.regs) ≡ weaker_registers l.held l.initial.regs;
}
