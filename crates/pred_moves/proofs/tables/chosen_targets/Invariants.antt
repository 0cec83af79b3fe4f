use Rattle.std.proofs.Common.{◌≡◌, drop}
use Rattle.step_rules.specs.Tables.{chosen_targets}
use Rattle.pred_moves.proofs.tables.chosen_targets.Given as goal

abbrev pub invariant-loop-bound : goal.invariant-loop-bound
invariant-loop-bound l = chosen_targets l.image l.jump (drop l.bound-index l.bounds) ≡ chosen_targets l.image l.jump l.bounds
