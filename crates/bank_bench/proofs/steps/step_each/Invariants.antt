use Rattle.term_bank.specs.Terms.{Grows}
use Rattle.bank_bench.proofs.steps.step_each.Given as goal

abbrev pub invariant-loop-i : goal.invariant-loop-i
invariant-loop-i g l = Grows (g.B.Bank.terms l.initial.bank) (g.B.Bank.terms l.bank)
