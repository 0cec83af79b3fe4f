use Rattle.std.proofs.Common.{◌≡◌, ◌++◌, map, drop}
use Rattle.term_text.specs.Numbers.{number_text}
use Rattle.graph_lines.specs.Words.{joined}
use Rattle.graph_lines.proofs.PutLemmas.{to_write}
use Rattle.graph_lines.proofs.term_writing.put_numbers.Given as goal

abbrev pub invariant-loop-number : goal.invariant-loop-number
invariant-loop-number l = l.out.items ++ to_write l.first 44 (map number_text (drop l.number-index l.numbers)) ≡ l.fn.out.items ++ joined 44 (map number_text l.numbers)
