use Rattle.std.proofs.Common.{◌≡◌, ◌≤◌, take, drop, length, filter}
use Rattle.bank_values.specs.Weaken.{holds_limit}
use Rattle.bank_values.proofs.weakening.weaken_bounds.Given as goal

abbrev pub invariant-loop-left : goal.invariant-loop-left
invariant-loop-left l = record {
  within : l.left ≤ length l.bounds.items;
  inside : l.left ≤ length l.initial.bounds.items;
  before : take l.left l.bounds.items ≡ take l.left l.initial.bounds.items;
  weaker : drop l.left l.bounds.items ≡ filter (holds_limit l.held) (drop l.left l.initial.bounds.items);
}

abbrev pub decreases-loop-left : goal.decreases-loop-left
decreases-loop-left l = l.left
