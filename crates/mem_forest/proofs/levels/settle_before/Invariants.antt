use Rattle.std.proofs.Common.{◌≡◌, ◌≤◌, take, drop, vec_len}
use Rattle.mem_forest.specs.Plain.{cells}
use Rattle.mem_forest.specs.Levels.{inserted}
use Rattle.mem_forest.proofs.levels.settle_before.Given as goal

abbrev pub invariant-loop-left : goal.invariant-loop-left
invariant-loop-left l = record {
  within : l.left ≤ vec_len l.nodes;
  settled : inserted (take l.left l.nodes.items) (cells (drop l.left l.nodes.items)) ≡ inserted (take l.fn.n l.initial.nodes.items) (cells (drop l.fn.n l.initial.nodes.items));
}

abbrev pub decreases-loop-left : goal.decreases-loop-left
decreases-loop-left l = l.left
