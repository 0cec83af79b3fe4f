use Rattle.std.proofs.Common.{◌≡◌, ◌++◌, map, drop}
use Rattle.graph_lines.specs.Line.{bound_line}
use Rattle.graph_text.specs.Text.{lines_text}
use Rattle.graph_text.proofs.write.put_bounds.Given as goal

abbrev pub invariant-loop-bound : goal.invariant-loop-bound
invariant-loop-bound l = l.out.items ++ lines_text (map bound_line (drop l.bound-index l.bounds)) ≡ l.initial.out.items ++ lines_text (map bound_line l.bounds)
