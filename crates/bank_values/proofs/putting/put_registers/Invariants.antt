use Rattle.std.proofs.Common.{take}
use Rattle.bank_values.specs.ReadBack.{known_at, IsKnownBelow}
use Rattle.bank_values.proofs.GrowLemmas.{Put}
use Rattle.bank_values.proofs.putting.put_registers.Given as goal

abbrev pub invariant-loop-term : goal.invariant-loop-term
invariant-loop-term g l =
    Put known_at IsKnownBelow (g.B.Bank.terms l.initial.bank) (g.B.Bank.terms l.bank) l.out.items (take l.term-index l.regs)
