use Rattle.std.proofs.Common.{◌≡◌, ◌∷◌, [], drop}
use Rattle.step_rules.specs.Tables.{choice_among}
use Rattle.pred_moves.proofs.tables.entries_between.Given as goal

abbrev pub invariant-loop-scale : goal.invariant-loop-scale
invariant-loop-scale l =
    choice_among l.at l.key l.low l.high (drop l.scale-index (1 ∷ 2 ∷ 4 ∷ 8 ∷ [])) ≡ choice_among l.at l.key l.low l.high (1 ∷ 2 ∷ 4 ∷ 8 ∷ [])
