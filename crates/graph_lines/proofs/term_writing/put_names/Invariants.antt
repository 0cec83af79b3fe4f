use Rattle.std.proofs.Common.{◌≡◌, ◌++◌, map, drop}
use Rattle.term_text.specs.Text.{sum_text}
use Rattle.graph_lines.specs.Words.{joined}
use Rattle.graph_lines.proofs.PutLemmas.{to_write}
use Rattle.graph_lines.proofs.term_writing.put_names.Given as goal

abbrev pub invariant-loop-name : goal.invariant-loop-name
invariant-loop-name l = l.out.items ++ to_write l.first 124 (map sum_text (drop l.name-index l.names)) ≡ l.fn.out.items ++ joined 124 (map sum_text l.names)
