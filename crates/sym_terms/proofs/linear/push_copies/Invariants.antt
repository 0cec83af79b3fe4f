use Rattle.std.proofs.Common.{◌≡◌, ◌++◌, take}
use Rattle.sym_terms.proofs.linear.push_copies.Given as goal

abbrev pub invariant-loop-atom : goal.invariant-loop-atom
invariant-loop-atom l = l.out ≡ l.initial.out ++ take l.atom-index l.atoms
