use Rattle.std.proofs.Common.{◌≡◌, take, length}
use Rattle.bank_values.proofs.equal.+same.Given as goal

abbrev pub invariant-are_same_nodes-loop-i : goal.invariant-are_same_nodes-loop-i
invariant-are_same_nodes-loop-i l = record { len : length l.left ≡ length l.right; same : take l.i l.left ≡ take l.i l.right }
