use Rattle.std.proofs.Common.{◌<◌, take}
use Rattle.bank_values.specs.ReadBack.{bound_at}
use Rattle.bank_values.proofs.GrowLemmas.{Put}
use Rattle.bank_values.proofs.putting.put_bounds.Given as goal

abbrev pub invariant-loop-bound : goal.invariant-loop-bound
invariant-loop-bound g l =
    Put bound_at (λ n b. b.0 < n) (g.B.Bank.terms l.initial.bank) (g.B.Bank.terms l.bank) l.out.items (take l.bound-index l.bounds)
