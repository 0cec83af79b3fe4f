use Rattle.std.proofs.Common.{◌≡◌, drop}
use Rattle.std.specs.Prelude.{IsTrue}
use Rattle.step_rules.specs.Tables.{chosen}
use Rattle.step_values.specs.Ordered.{are_ordered}
use Rattle.step_effects.proofs.tables.chosen.Given as goal

abbrev pub invariant-loop-bound : goal.invariant-loop-bound
invariant-loop-bound l = record {
  ordered : IsTrue (are_ordered (drop l.bound-index l.bounds));
  same : chosen l.at (drop l.bound-index l.bounds) ≡ chosen l.at l.bounds;
}
