use Rattle.std.proofs.Common.{◌≡◌, ◌<◌, ◌↔◌, ℕ, true, length}
use Rattle.lift_graph.specs.Rows.{is_set}
use Rattle.lift_graph.specs.Heads.{IsKept}
use Rattle.lift_graph.proofs.heads.kept_vertices.Given as goal

abbrev pub invariant-loop-vertex : goal.invariant-loop-vertex
invariant-loop-vertex l =
    record {
      marks : length l.keeps.items ≡ l.vertex;
      kept : (v : ℕ) → v < l.vertex → (is_set l.keeps.items v ≡ true) ↔ IsKept l.keys l.inward v;
    }
