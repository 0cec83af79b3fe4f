use Rattle.std.proofs.Common.{◌≡◌, ◌<◌, ◌++◌, ℕ, length, drop}
use Rattle.lift_graph.specs.Rows.{items_at}
use Rattle.lift_graph.specs.Edges.{places_from}
use Rattle.lift_graph.proofs.weave.weave.Given as goal

abbrev pub invariant-loop-source : goal.invariant-loop-source
invariant-loop-source l =
    record {
      rows : length l.rows.items ≡ l.n;
      value : (v : ℕ) → v < l.n → items_at l.rows.items v ++ places_from l.targets (drop l.source-index l.order) v ≡ places_from l.targets l.order v;
    }
