use Rattle.std.proofs.Common.{◌≡◌, ◌++◌, map, drop}
use Rattle.graph_lines.specs.declared.line.Line.TheVariants as line
use Rattle.graph_lines.specs.declared.line.VertexLine.TheVariants as in_vertex
use Rattle.graph_lines.specs.Text.{edge_text, line_text}
use Rattle.graph_lines.proofs.PutLemmas.{to_write}
use Rattle.graph_lines.proofs.plain_writing.put_edges_line.Given as goal

abbrev pub invariant-loop-addr : goal.invariant-loop-addr
invariant-loop-addr l = l.out.items ++ to_write l.first 32 (map edge_text (drop l.addr-index l.edges)) ≡ l.fn.out.items ++ line_text (line.InVertex (in_vertex.Edges l.edges))
