use Rattle.std.proofs.Common.{◌≡◌, ◌∷◌, take}
use Rattle.pred_step.proofs.cases.with_pair.Given as goal

abbrev pub invariant-loop-other : goal.invariant-loop-other
invariant-loop-other l = l.out.items ≡ l.pair ∷ take l.other-index l.pairs
