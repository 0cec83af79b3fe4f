use Rattle.std.proofs.Common.{◌≡◌, ◌+◌, drop}
use Rattle.graph_builder.specs.Limits.{count_of}
use Rattle.graph_builder.proofs.limits.remaining_in_levels.Given as goal

abbrev pub invariant-loop-nodes : goal.invariant-loop-nodes
invariant-loop-nodes l = l.left + count_of l.levels ≡ l.room + count_of (drop l.nodes-index l.levels)
