use Rattle.std.proofs.Common.{◌≡◌, drop}
use Rattle.mem_forest.specs.Plain.{cells}
use Rattle.graph_builder.specs.Order.{collides}
use Rattle.graph_builder.proofs.order.+collides.Given as goal

abbrev pub invariant-loop-other : goal.invariant-loop-other
invariant-loop-other l = collides l.node (cells (drop l.other-index l.nodes)) ≡ collides l.node (cells l.nodes)
