use Rattle.std.proofs.Common.{◌≡◌, take, drop, vec_len}
use Rattle.graph_builder.specs.Levels.{fold_levels}
use Rattle.graph_builder.proofs.close.fold_below.Given as goal

abbrev pub invariant-loop-levels : goal.invariant-loop-levels
invariant-loop-levels l = record {
  left : take l.depth l.levels.items ≡ take l.depth l.initial.levels.items;
  below : fold_levels (drop l.depth l.levels.items) l.nodes.items ≡ fold_levels (drop l.depth l.initial.levels.items) l.initial.nodes.items;
}

abbrev pub decreases-loop-levels : goal.decreases-loop-levels
decreases-loop-levels l = vec_len l.levels
