use Rattle.std.proofs.Common.{◌≡◌, ◌≤◌, take, drop, length}
use Rattle.bank_values.specs.Numbered.{level}
use Rattle.bank_values.specs.Weaken.{weaker_forest}
use Rattle.bank_values.proofs.weakening.+weakening.Given as goal

abbrev pub invariant-loop-left : goal.invariant-loop-left
invariant-loop-left l = record {
  within : l.left ≤ length l.nodes.items;
  inside : l.left ≤ length l.initial.nodes.items;
  before : take l.left l.nodes.items ≡ take l.left l.initial.nodes.items;
  weaker : level (drop l.left l.nodes.items) ≡ weaker_forest (level l.held) (level (drop l.left l.initial.nodes.items));
}

abbrev pub decreases-loop-left : goal.decreases-loop-left
decreases-loop-left l = l.left
