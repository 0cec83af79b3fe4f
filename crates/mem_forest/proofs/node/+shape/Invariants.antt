use Rattle.std.proofs.Common.{◌≡◌, drop}
use Rattle.mem_forest.specs.Plain.{cells}
use Rattle.mem_forest.specs.Shape.{shaped}
use Rattle.mem_forest.proofs.node.+shape.Given as goal

abbrev pub invariant-loop-i : goal.invariant-loop-i
invariant-loop-i l = shaped (cells (drop l.i l.nodes)) ≡ shaped (cells l.nodes)
