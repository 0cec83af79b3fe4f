use Rattle.std.proofs.Common.{◌≡◌, ◌++◌, map, drop}
use Rattle.graph_lines.specs.declared.line.Line.TheVariants as line
use Rattle.graph_lines.specs.declared.line.VertexLine.TheVariants as in_vertex
use Rattle.graph_lines.specs.Text.{given_text, line_text}
use Rattle.graph_lines.proofs.PutLemmas.{to_write}
use Rattle.graph_lines.proofs.term_writing.put_registers_line.Given as goal

abbrev pub invariant-loop-register : goal.invariant-loop-register
invariant-loop-register l = l.out.items ++ to_write l.first 32 (map given_text (drop l.register-index l.given)) ≡ l.fn.out.items ++ line_text (line.InVertex (in_vertex.Registers l.given))
