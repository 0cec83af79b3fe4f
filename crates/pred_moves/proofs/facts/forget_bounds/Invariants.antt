use Rattle.std.proofs.Common.{◌≡◌, ◌≤◌, take, drop, length}
use Rattle.std.specs.Prelude.{filter, not}
use Rattle.sym_terms.specs.Mentions.{mentions}
use Rattle.pred_moves.proofs.facts.forget_bounds.Given as goal

abbrev pub invariant-loop-left : goal.invariant-loop-left
invariant-loop-left l = record {
  within : l.left ≤ length l.bounds;
  inside : l.left ≤ length l.initial.bounds;
  before : take l.left l.bounds ≡ take l.left l.initial.bounds;
  weaker : drop l.left l.bounds ≡ filter (λ b. not (mentions l.s b.key)) (drop l.left l.initial.bounds);
}

abbrev pub decreases-loop-left : goal.decreases-loop-left
decreases-loop-left l = l.left
