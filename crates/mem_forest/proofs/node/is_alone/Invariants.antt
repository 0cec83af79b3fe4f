use Rattle.std.proofs.Common.{◌≡◌, drop}
use Rattle.mem_forest.specs.Plain.{cells}
use Rattle.mem_forest.specs.Shape.{is_unique}
use Rattle.mem_forest.proofs.node.is_alone.Given as goal

abbrev pub invariant-loop-name : goal.invariant-loop-name
invariant-loop-name l = is_unique (cells l.all) l.bytes (drop l.name-index l.names) ≡ is_unique (cells l.all) l.bytes l.names
