use Rattle.std.proofs.Common.{◌≡◌, ◌-◌, ◌^◌, ℕ, Some, length, slice_get}
use Rattle.std.specs.List.{All}
use Rattle.lift_graph.specs.Graph.{IsGraph}
use Rattle.lift_graph.specs.declared.graph.Key.{Key}
use Rattle.lift_rounds.specs.Fixed.{IsFilled}
use Rattle.lift_rounds.specs.Known.{IsHeld, pred_at, reading}
use Rattle.lift_rounds.specs.Settled.{IsLed}
use Rattle.lift_rounds.proofs.rounds.run_rounds.Given as goal

abbrev pub invariant-edges : goal.invariant-edges
invariant-edges g l =
    let t = g.S.Steps in
    record {
      graph : IsGraph l.graph;
      rows : length l.made.items ≡ length l.graph.keys.items;
      grows : t.grows l.fn.steps l.steps;
      made : All (λ m. IsHeld (t.has l.steps) m) l.made.items;
      keys : (v : ℕ) (k : Key) → slice_get l.fn.graph.keys.items v ≡ Some k → slice_get l.graph.keys.items v ≡ Some k;
      filled : IsFilled (t.meaning l.fn.steps) l.fn.graph.keys.items (reading (t.read l.fn.steps) l.fn.made.items) → IsFilled (t.meaning l.fn.steps) l.graph.keys.items (reading (t.read l.steps) l.made.items);
      entry : pred_at (reading (t.read l.steps) l.made.items) 0 ≡ pred_at (reading (t.read l.fn.steps) l.fn.made.items) 0;
      led : IsLed (t.meaning l.fn.steps) l.graph (reading (t.read l.steps) l.made.items);
    }

abbrev pub decreases-edges : goal.decreases-edges
decreases-edges g l = 2 ^ 64 - l.found
