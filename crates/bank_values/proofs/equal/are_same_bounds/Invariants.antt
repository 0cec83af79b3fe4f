use Rattle.std.proofs.Common.{◌≡◌, take, length}
use Rattle.bank_values.proofs.equal.are_same_bounds.Given as goal

abbrev pub invariant-loop-i : goal.invariant-loop-i
invariant-loop-i l = record { len : length l.left ≡ length l.right; same : take l.i l.left ≡ take l.i l.right }
