use Rattle.std.proofs.Common.{◌≡◌, drop}
use Rattle.mem_forest.specs.Plain.{cells}
use Rattle.mem_forest.specs.Shape.{all_alone}
use Rattle.mem_forest.proofs.node.+is_unique.Given as goal

abbrev pub invariant-loop-node : goal.invariant-loop-node
invariant-loop-node l = all_alone (cells l.all) (cells (drop l.node-index l.nodes)) ≡ all_alone (cells l.all) (cells l.nodes)
