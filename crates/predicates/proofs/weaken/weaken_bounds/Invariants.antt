use Rattle.std.proofs.Common.{◌≡◌, ◌≤◌, take, drop, length}
use Rattle.predicates.specs.Weaken.{weaker_bounds}
use Rattle.predicates.proofs.weaken.weaken_bounds.Given as goal

abbrev pub invariant-loop-left : goal.invariant-loop-left
invariant-loop-left l = record {
  within : l.left ≤ length l.bounds;
  inside : l.left ≤ length l.initial.bounds;
  before : take l.left l.bounds ≡ take l.left l.initial.bounds;
  weaker : drop l.left l.bounds ≡ weaker_bounds l.held (drop l.left l.initial.bounds);
}

abbrev pub decreases-loop-left : goal.decreases-loop-left
decreases-loop-left l = l.left
