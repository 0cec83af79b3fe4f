use Rattle.std.proofs.Common.{◌≡◌, take}
use Rattle.lift_rounds.specs.Known.{addresses}
use Rattle.lift_rounds.proofs.one_round.addresses_of.Given as goal

abbrev pub invariant-loop-i : goal.invariant-loop-i
invariant-loop-i g l = l.found.items ≡ take l.i (addresses l.cases)
