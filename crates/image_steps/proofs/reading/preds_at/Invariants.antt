use Rattle.std.proofs.Common.{◌≡◌, map, take}
use Rattle.bank_values.specs.ReadBack.{predicate_at}
use Rattle.lift_rounds.specs.Known.{pred_at, reading}
use Rattle.image_steps.specs.Meant.{known_among}
use Rattle.image_steps.proofs.reading.preds_at.Given as goal

abbrev pub invariant-loop-vertex : goal.invariant-loop-vertex
invariant-loop-vertex g l =
    l.preds.items ≡ known_among (map (pred_at (reading (predicate_at (g.B.Bank.terms l.bank)) l.made)) (take l.vertex-index l.site))
