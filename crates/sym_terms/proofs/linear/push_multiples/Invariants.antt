use Rattle.std.proofs.Common.{◌≡◌, ◌++◌, drop}
use Rattle.sym_terms.specs.View.{multiples}
use Rattle.sym_terms.proofs.linear.push_multiples.Given as goal

abbrev pub invariant-loop-atom : goal.invariant-loop-atom
invariant-loop-atom l = l.out ++ multiples l.factor (drop l.atom-index l.atoms) ≡ l.initial.out ++ multiples l.factor l.atoms
