use Rattle.std.proofs.Common.{take}
use Rattle.bank_step.specs.CasesAt.{AreAlike}
use Rattle.bank_step.proofs.numbered.copies.Given as goal

abbrev pub invariant-loop-address : goal.invariant-loop-address
invariant-loop-address l = AreAlike l.p (take l.address-index l.addresses) l.out.items
