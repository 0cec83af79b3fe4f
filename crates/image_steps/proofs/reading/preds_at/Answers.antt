use Rattle.bank_values.specs.ReadBack.{predicate_at}
use Rattle.lift_rounds.specs.Known.{pred_at, reading}
use Rattle.image_steps.proofs.KnownLemmas.{known_more}
use Rattle.image_steps.proofs.reading.preds_at.Goals as goal

pub loop-vertex-preserved : goal.loop-vertex-preserved
loop-vertex-preserved g c =
    known_more (pred_at (reading (predicate_at (g.B.Bank.terms c.args.bank.now)) c.args.made.now)) c.args.site.now c.loop-vertex.vertex-index _ c.in_ok-known.known c.loop-vertex.preds.items _
    c.loop-vertex-test.true c.in_ok-known.ensures c.loop-vertex.invariant c.in_ok-add_known.ensures
