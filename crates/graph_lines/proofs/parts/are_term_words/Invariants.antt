use Rattle.std.proofs.Common.{◌≡◌}
use Rattle.std.specs.List.{list_all}
use Rattle.std.specs.Option.{option_map}
use Rattle.graph_lines.specs.Words.{fields, fields_after, is_term_word}
use Rattle.graph_lines.proofs.FieldLemmas.{left}
use Rattle.graph_lines.proofs.parts.are_term_words.Given as goal

abbrev pub invariant-loop-after : goal.invariant-loop-after
invariant-loop-after l = list_all is_term_word (fields_after 124 (option_map (λ r. r.now) l.after)) ≡ list_all is_term_word (fields 124 l.fn.names)

abbrev pub decreases-loop-after : goal.decreases-loop-after
decreases-loop-after l = left (option_map (λ r. r.now) l.after)
