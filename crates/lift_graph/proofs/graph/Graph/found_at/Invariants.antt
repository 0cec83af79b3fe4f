use Rattle.std.proofs.Common.{◌≡◌}
use Rattle.lift_graph.specs.Sites.{vertices_at}
use Rattle.lift_graph.proofs.graph.Graph.found_at.Given as goal

abbrev pub invariant-loop-tag : goal.invariant-loop-tag
invariant-loop-tag l = l.vertices.items ≡ vertices_at l.self.index l.address l.tag
