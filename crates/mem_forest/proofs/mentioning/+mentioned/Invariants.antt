use Rattle.std.proofs.Common.{◌≡◌, drop}
use Rattle.mem_forest.specs.Plain.{cells}
use Rattle.mem_forest.specs.Mentioned.{forest_mentions}
use Rattle.mem_forest.proofs.mentioning.+mentioned.Given as goal

abbrev pub invariant-are_mentioned-loop-node : goal.invariant-are_mentioned-loop-node
invariant-are_mentioned-loop-node l = forest_mentions l.s (cells (drop l.node-index l.nodes)) ≡ forest_mentions l.s (cells l.nodes)
