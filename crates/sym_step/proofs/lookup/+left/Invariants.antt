use Rattle.std.proofs.Common.{◌≡◌, drop}
use Rattle.mem_forest.specs.Plain.{cells}
use Rattle.sym_step.specs.Left.{has_left}
use Rattle.sym_step.proofs.lookup.+left.Given as goal

abbrev pub invariant-has_left-loop-node : goal.invariant-has_left-loop-node
invariant-has_left-loop-node l =
    has_left l.room l.s l.at l.bytes (cells (drop l.node-index l.nodes)) ≡ has_left l.room l.s l.at l.bytes (cells l.nodes)
