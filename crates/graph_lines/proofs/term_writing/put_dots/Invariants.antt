use Rattle.std.proofs.Common.{◌≡◌, ◌++◌, replicate}
use Rattle.graph_lines.proofs.term_writing.put_dots.Given as goal

abbrev pub invariant-loop : goal.invariant-loop
invariant-loop l = l.out.items ≡ l.fn.out.items ++ replicate l.counter 46
