use Rattle.std.proofs.Common.{◌≡◌, drop}
use Rattle.std.specs.List.{list_all}
use Rattle.predicates.specs.Holding.{is_among}
use Rattle.bank_values.proofs.weakening.are_among.Given as goal

abbrev pub invariant-loop-number : goal.invariant-loop-number
invariant-loop-number l =
    list_all (λ n. is_among n l.others) (drop l.number-index l.numbers) ≡ list_all (λ n. is_among n l.others) l.numbers
