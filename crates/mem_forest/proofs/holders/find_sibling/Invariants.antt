use Rattle.std.proofs.Common.{◌≡◌, drop}
use Rattle.mem_forest.specs.Plain.{cells}
use Rattle.mem_forest.specs.Holders.{sibling}
use Rattle.mem_forest.proofs.holders.find_sibling.Given as goal

abbrev pub invariant-loop-node : goal.invariant-loop-node
invariant-loop-node l = sibling l.at l.bytes (cells (drop l.node-index l.level)) ≡ sibling l.at l.bytes (cells l.level)
