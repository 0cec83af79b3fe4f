use Rattle.std.proofs.Common.{◌≡◌, map, take}
use Rattle.lift_rounds.specs.Known.{case_reading}
use Rattle.lift_rounds.proofs.compare.have_same_cases.Given as goal

abbrev pub invariant-loop-i : goal.invariant-loop-i
invariant-loop-i g l = let read = g.S.Steps.read l.steps in take l.i (map (case_reading read) l.left) ≡ take l.i (map (case_reading read) l.right)
