use Rattle.std.proofs.Common.{◌≡◌, drop}
use Rattle.std.specs.Prelude.{IsTrue}
use Rattle.predicates.specs.Bounds.{are_formed}
use Rattle.step_rules.specs.Tables.{chosen}
use Rattle.pred_moves.proofs.tables.chosen_values.Given as goal

abbrev pub invariant-loop-bound : goal.invariant-loop-bound
invariant-loop-bound l = record {
  formed : IsTrue (are_formed (drop l.bound-index l.bounds));
  rest : chosen l.at (drop l.bound-index l.bounds) ≡ chosen l.at l.bounds;
}
