use Rattle.std.proofs.Common.{◌≡◌, ◌<◌, ◌++◌, ℕ, length, drop}
use Rattle.lift_graph.specs.Rows.{items_at}
use Rattle.lift_graph.specs.Edges.{places_to}
use Rattle.lift_graph.proofs.weave.add_edges.Given as goal

abbrev pub invariant-loop-case : goal.invariant-loop-case
invariant-loop-case l =
    record {
      rows : length l.rows.items ≡ length l.fn.rows.items;
      value : (v : ℕ) → v < length l.fn.rows.items → items_at l.rows.items v ++ places_to l.source l.case (drop l.case l.targets) v ≡ items_at l.fn.rows.items v ++ places_to l.source 0 l.targets v;
    }
