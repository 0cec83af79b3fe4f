use Rattle.std.proofs.Common.{◌≡◌, ◌++◌, take, drop, length}
use Rattle.bank_values.specs.Weaken.{weaker_numbers}
use Rattle.bank_values.proofs.weakening.weaken_each.Given as goal

abbrev pub invariant-loop-i : goal.invariant-loop-i
invariant-loop-i l = record {
  len : length l.regs.items ≡ length l.initial.regs.items;
  weaker : take l.i l.regs.items ++ weaker_numbers (drop l.i l.held) (drop l.i l.regs.items) ≡ weaker_numbers l.held l.initial.regs.items;
}
