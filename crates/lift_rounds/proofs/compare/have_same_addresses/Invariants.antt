use Rattle.std.proofs.Common.{◌≡◌, take}
use Rattle.lift_rounds.specs.Known.{addresses}
use Rattle.lift_rounds.proofs.compare.have_same_addresses.Given as goal

abbrev pub invariant-loop-i : goal.invariant-loop-i
invariant-loop-i g l = take l.i (addresses l.left) ≡ take l.i (addresses l.right)
