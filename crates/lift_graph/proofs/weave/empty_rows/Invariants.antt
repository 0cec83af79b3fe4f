use Rattle.std.proofs.Common.{◌≡◌, ℕ, [], length}
use Rattle.lift_graph.specs.Rows.{items_at}
use Rattle.lift_graph.proofs.weave.empty_rows.Given as goal

abbrev pub invariant-loop-i : goal.invariant-loop-i
invariant-loop-i l =
    record {
      rows : length l.rows.items ≡ l.i;
      none : (v : ℕ) → items_at l.rows.items v ≡ [];
    }
