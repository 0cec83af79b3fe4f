use Rattle.std.proofs.Common.{◌≡◌, ◌≤◌, take, drop, vec_len}
use Rattle.mem_forest.specs.Plain.{cells}
use Rattle.mem_forest.specs.Forget.{forget}
use Rattle.mem_forest.proofs.forgetting.+forget.Given as goal

abbrev pub invariant-loop-left : goal.invariant-loop-left
invariant-loop-left l = record {
  within : l.left ≤ vec_len l.nodes;
  inside : l.left ≤ vec_len l.initial.nodes;
  before : take l.left l.nodes.items ≡ take l.left l.initial.nodes.items;
  forgotten : cells (drop l.left l.nodes.items) ≡ forget l.s (cells (drop l.left l.initial.nodes.items));
}

abbrev pub decreases-loop-left : goal.decreases-loop-left
decreases-loop-left l = l.left
