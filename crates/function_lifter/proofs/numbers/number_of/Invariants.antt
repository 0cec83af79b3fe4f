use Rattle.std.proofs.Common.{◌≡◌, ◌≤◌, length}
use Rattle.lift_graph.specs.Sites.{vertices_at}
use Rattle.function_lifter.proofs.numbers.number_of.Given as goal

abbrev pub invariant-loop-tag : goal.invariant-loop-tag
invariant-loop-tag l = record {
  value : l.number ≡ length (vertices_at l.graph.index l.key.address l.tag);
  small : l.number ≤ l.tag;
}
