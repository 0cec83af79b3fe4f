use Rattle.std.proofs.Common.{◌≡◌, ◌++◌, drop}
use Rattle.std.specs.Prelude.{filter, not}
use Rattle.sym_terms.specs.Mentions.{mentions}
use Rattle.step_values.proofs.bounds.without.Given as goal

abbrev pub invariant-loop-bound : goal.invariant-loop-bound
invariant-loop-bound l = l.out ++ filter (λ b. not (mentions l.s b.key)) (drop l.bound-index l.bounds) ≡ filter (λ b. not (mentions l.s b.key)) l.bounds
