use Rattle.std.proofs.Common.{◌≡◌, map, take}
use Rattle.term_bank.specs.Terms.{term_at}
use Rattle.bank_values.proofs.reading.read_names.Given as goal

abbrev pub invariant-loop-name : goal.invariant-loop-name
invariant-loop-name g l = l.out.items ≡ map (term_at (g.B.Bank.terms l.bank)) (take l.name-index l.names)
