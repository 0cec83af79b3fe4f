use Rattle.std.proofs.Common.{◌<◌, ◌≤◌, ℕ, length}
use Rattle.std.specs.List.{All}
use Rattle.lift_graph.specs.Rows.{items_at}
use Rattle.lift_graph.specs.Components.{ComesDown, LeadsUp, part_of}
use Rattle.lift_graph.proofs.components.Components.are_right.Given as goal

abbrev pub invariant-loop-vertex : goal.invariant-loop-vertex
invariant-loop-vertex l =
    record {
      falls : (v : ℕ) → v < l.vertex → All (λ p. part_of l.self v ≤ part_of l.self p.vertex) (items_at l.inward v);
      up : (v : ℕ) → v < l.vertex → LeadsUp l.inward (length l.inward) l.self v;
      down : (v : ℕ) → v < l.vertex → ComesDown l.inward (length l.inward) l.self v;
    }
