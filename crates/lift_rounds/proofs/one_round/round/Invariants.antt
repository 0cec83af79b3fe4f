use Rattle.std.proofs.Common.{◌≡◌, ◌≢◌, ◌+◌, ◌-◌, ◌^◌, ℕ, true, Some, [], length, slice_get}
use Rattle.std.specs.List.{All}
use Rattle.lift_graph.specs.Graph.{IsGraph}
use Rattle.lift_graph.specs.Rows.{is_set, items_at}
use Rattle.lift_graph.specs.Search.{unset}
use Rattle.lift_graph.specs.declared.graph.Key.{Key}
use Rattle.lift_rounds.specs.Fixed.{IsFilled}
use Rattle.lift_rounds.specs.Known.{IsHeld, pred_at, reading}
use Rattle.lift_rounds.specs.Round.{Quiet, frame_of}
use Rattle.lift_rounds.specs.Settled.{IsLed}
use Rattle.lift_rounds.specs.declared.data.Change.TheVariants.{Found}
use Rattle.lift_rounds.proofs.one_round.round.Given as goal

abbrev pub invariant-loop-vertex : goal.invariant-loop-vertex
invariant-loop-vertex g l =
    let t = g.S.Steps in
    record {
      graph : IsGraph l.graph;
      rows : length l.made.items ≡ length l.graph.keys.items;
      marks : length l.taken.items ≡ length l.graph.keys.items;
      grows : t.grows l.fn.steps l.steps;
      made : All (λ m. IsHeld (t.has l.steps) m) l.made.items;
      led : IsLed (t.meaning l.fn.steps) l.graph (reading (t.read l.steps) l.made.items);
      filled : IsFilled (t.meaning l.fn.steps) l.fn.graph.keys.items (reading (t.read l.fn.steps) l.fn.made.items) → IsFilled (t.meaning l.fn.steps) l.graph.keys.items (reading (t.read l.steps) l.made.items);
      alone : items_at l.graph.inward.items 0 ≡ [];
      kept : is_set l.graph.keeps.items 0 ≡ true;
      keys : (v : ℕ) (k : Key) → slice_get l.fn.graph.keys.items v ≡ Some k → slice_get l.graph.keys.items v ≡ Some k;
      entry : pred_at (reading (t.read l.steps) l.made.items) 0 ≡ pred_at (reading (t.read l.fn.steps) l.fn.made.items) 0;
      same : l.change ≢ Found → l.graph ≡ l.fn.graph;
      quiet : l.change ≢ Found → Quiet (frame_of (t.meaning l.fn.steps) l.fn.graph) (reading (t.read l.fn.steps) l.fn.made.items) (reading (t.read l.steps) l.made.items) l.taken.items l.change;
    }

abbrev pub decreases-loop-vertex : goal.decreases-loop-vertex
decreases-loop-vertex g l = (2 ^ 64 - length l.graph.keys.items) + unset l.taken.items
