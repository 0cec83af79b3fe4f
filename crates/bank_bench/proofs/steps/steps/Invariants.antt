use Rattle.term_bank.specs.Terms.{Grows}
use Rattle.bank_bench.proofs.steps.steps.Given as goal

abbrev pub invariant-turns : goal.invariant-turns
invariant-turns g l = Grows (g.B.Bank.terms l.initial.bank) (g.B.Bank.terms l.bank)
