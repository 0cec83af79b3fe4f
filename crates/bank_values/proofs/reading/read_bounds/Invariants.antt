use Rattle.std.proofs.Common.{◌≡◌, map, take}
use Rattle.bank_values.specs.ReadBack.{bound_at}
use Rattle.bank_values.proofs.reading.read_bounds.Given as goal

abbrev pub invariant-loop-key : goal.invariant-loop-key
invariant-loop-key g l = l.out.items ≡ map (bound_at (g.B.Bank.terms l.bank)) (take l.key-index l.bounds)
