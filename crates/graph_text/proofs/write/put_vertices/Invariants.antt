use Rattle.std.proofs.Common.{◌≡◌, ◌++◌, drop}
use Rattle.std.specs.List.{flat_map, enumerate_from}
use Rattle.graph_builder.specs.Lines.{vertex_lines}
use Rattle.graph_text.specs.Text.{lines_text}
use Rattle.graph_text.proofs.write.put_vertices.Given as goal

abbrev pub invariant-loop-number : goal.invariant-loop-number
invariant-loop-number l = l.out.items ++ lines_text (flat_map vertex_lines (enumerate_from l.number (drop l.number l.vertices))) ≡ l.initial.out.items ++ lines_text (flat_map vertex_lines (enumerate_from 0 l.vertices))
