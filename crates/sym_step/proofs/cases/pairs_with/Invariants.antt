use Rattle.std.proofs.Common.{◌≡◌, ◌∷◌, take}
use Rattle.sym_step.proofs.cases.pairs_with.Given as goal

abbrev pub invariant-loop-other : goal.invariant-loop-other
invariant-loop-other l = l.out.items ≡ l.pair ∷ take l.other-index l.pairs
