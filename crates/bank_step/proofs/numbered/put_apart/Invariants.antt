use Rattle.std.proofs.Common.{take}
use Rattle.std.specs.Prelude.{All}
use Rattle.bank_values.specs.ReadBack.{IsPred}
use Rattle.bank_values.proofs.GrowLemmas.{Put}
use Rattle.bank_step.specs.CasesAt.{pair_at, IsCaseBelow}
use Rattle.bank_step.proofs.numbered.put_apart.Given as goal

abbrev pub invariant-loop-address : goal.invariant-loop-address
invariant-loop-address g l = record {
  put : Put pair_at IsCaseBelow (g.B.Bank.terms l.initial.bank) (g.B.Bank.terms l.bank) l.out.items (take l.address-index l.cases);
  formed : All (λ c. IsPred c.1) (take l.address-index l.cases);
}
