use Rattle.std.proofs.Common.{◌≡◌, map, take}
use Rattle.bank_values.specs.ReadBack.{known_at}
use Rattle.bank_values.proofs.reading.read_registers.Given as goal

abbrev pub invariant-loop-number : goal.invariant-loop-number
invariant-loop-number g l = l.out.items ≡ map (known_at (g.B.Bank.terms l.bank)) (take l.number-index l.regs)
