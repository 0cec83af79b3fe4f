use Rattle.std.proofs.Common.{◌≡◌, ◌<◌, length}
use Rattle.std.specs.List.{All}
use Rattle.lift_rounds.specs.Fixed.{IsFilled}
use Rattle.lift_rounds.specs.Known.{IsHeld, pred_at, reading}
use Rattle.lift_rounds.specs.Round.{AllFormed, IsPlain, frame_of}
use Rattle.lift_rounds.specs.Settled.{IsLed}
use Rattle.lift_rounds.proofs.CalmLemmas.{left_over}
use Rattle.lift_rounds.proofs.rounds.settle.Given as goal

abbrev pub invariant-same : goal.invariant-same
invariant-same g l =
    let t = g.S.Steps in
    let f = frame_of (t.meaning l.fn.steps) l.fn.graph in
    record {
      same : l.graph ≡ l.fn.graph;
      rows : length l.made.items ≡ length l.fn.made.items;
      grows : t.grows l.fn.steps l.steps;
      made : All (λ m. IsHeld (t.has l.steps) m) l.made.items;
      led : IsLed (t.meaning l.fn.steps) l.fn.graph (reading (t.read l.steps) l.made.items);
      filled : IsFilled (t.meaning l.fn.steps) l.fn.graph.keys.items (reading (t.read l.fn.steps) l.fn.made.items) → IsFilled (t.meaning l.fn.steps) l.fn.graph.keys.items (reading (t.read l.steps) l.made.items);
      entry : pred_at (reading (t.read l.steps) l.made.items) 0 ≡ pred_at (reading (t.read l.fn.steps) l.fn.made.items) 0;
      quiet : l.quiet < 64;
      formed : 0 < l.quiet → IsPlain f → AllFormed f (reading (t.read l.steps) l.made.items);
    }

abbrev pub decreases-same : goal.decreases-same
decreases-same g l = let t = g.S.Steps in left_over (frame_of (t.meaning l.fn.steps) l.fn.graph) (reading (t.read l.steps) l.made.items) l.quiet
