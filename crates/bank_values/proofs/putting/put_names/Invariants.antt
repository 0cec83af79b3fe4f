use Rattle.std.proofs.Common.{◌<◌, take}
use Rattle.term_bank.specs.Terms.{term_at}
use Rattle.bank_values.proofs.GrowLemmas.{Put}
use Rattle.bank_values.proofs.putting.put_names.Given as goal

abbrev pub invariant-loop-name : goal.invariant-loop-name
invariant-loop-name g l =
    Put term_at (λ n m. m < n) (g.B.Bank.terms l.initial.bank) (g.B.Bank.terms l.bank) l.out.items (take l.name-index l.names)
