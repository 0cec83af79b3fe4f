use Rattle.std.proofs.Common.{◌≡◌, ◌++◌, map, drop}
use Rattle.graph_lines.specs.Line.{pair_line}
use Rattle.graph_text.specs.Text.{lines_text}
use Rattle.graph_text.proofs.write.put_pairs.Given as goal

abbrev pub invariant-loop-a : goal.invariant-loop-a
invariant-loop-a l = l.out.items ++ lines_text (map pair_line (drop l.a-index l.pairs)) ≡ l.initial.out.items ++ lines_text (map pair_line l.pairs)
