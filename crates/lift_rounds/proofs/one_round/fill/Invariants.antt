use Rattle.std.proofs.Common.{◌≡◌, ◌≤◌, ◌+◌, ℕ, length}
use Rattle.std.specs.List.{All}
use Rattle.lift_graph.specs.Search.{unset}
use Rattle.lift_rounds.specs.Known.{IsHeld, cases_at, pred_at, reading}
use Rattle.lift_rounds.proofs.one_round.fill.Given as goal

abbrev pub invariant-loop-vertex : goal.invariant-loop-vertex
invariant-loop-vertex g l =
    let t = g.S.Steps in
    record {
      rows : length l.made.items ≡ l.vertex;
      marks : length l.taken.items ≡ l.vertex;
      room : unset l.taken.items + length l.fn.made.items ≤ unset l.fn.taken.items + l.vertex;
      made : All (λ m. IsHeld (t.has l.steps) m) l.made.items;
      preds : (u : ℕ) → pred_at (reading (t.read l.steps) l.made.items) u ≡ pred_at (reading (t.read l.steps) l.fn.made.items) u;
      cases : (u : ℕ) → cases_at (reading (t.read l.steps) l.made.items) u ≡ cases_at (reading (t.read l.steps) l.fn.made.items) u;
    }
