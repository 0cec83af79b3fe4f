use Rattle.std.proofs.Common.{◌≡◌, map, take}
use Rattle.bank_values.specs.ReadBack.{predicate_at}
use Rattle.lift_rounds.specs.Known.{reading}
use Rattle.graph_data.specs.Parts.{Each}
use Rattle.lifted_exact.specs.Looked.{IsLookedVertex}
use Rattle.lifted_parts.specs.Built.{vertex_of}
use Rattle.function_lifter.proofs.build.vertices_of.Given as goal

abbrev pub invariant-loop-vertex : goal.invariant-loop-vertex
invariant-loop-vertex g l = record {
  value : l.vertices ≡ take l.vertex-index (map (vertex_of l.lift.graph (reading (predicate_at (g.B.Bank.terms l.bank)) l.lift.made.items)) l.site);
  looked : Each IsLookedVertex l.vertices;
}
