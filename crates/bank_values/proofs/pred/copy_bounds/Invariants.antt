use Rattle.std.proofs.Common.{◌≡◌, take}
use Rattle.bank_values.proofs.pred.copy_bounds.Given as goal

abbrev pub invariant-loop-key : goal.invariant-loop-key
invariant-loop-key l = l.copies.items ≡ take l.key-index l.bounds
