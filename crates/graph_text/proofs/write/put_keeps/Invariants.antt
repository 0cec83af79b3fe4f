use Rattle.std.proofs.Common.{◌≡◌, ◌++◌, map, drop}
use Rattle.graph_lines.specs.Line.{keep_line}
use Rattle.graph_text.specs.Text.{lines_text}
use Rattle.graph_text.proofs.write.put_keeps.Given as goal

abbrev pub invariant-loop-region : goal.invariant-loop-region
invariant-loop-region l = l.out.items ++ lines_text (map keep_line (drop l.region-index l.keeps)) ≡ l.initial.out.items ++ lines_text (map keep_line l.keeps)
