use Rattle.std.proofs.Common.{◌≡◌, ◌<◌, length, None}
use Rattle.std.specs.Option.{option_map}
use Rattle.graph_data.specs.Parts.{Each}
use Rattle.graph_data.specs.WellFormed.{IsNumber}
use Rattle.term_text.specs.Numbers.{number_at}
use Rattle.graph_lines.specs.Words.{fields, fields_after}
use Rattle.graph_lines.specs.Syntax.{each_at}
use Rattle.graph_lines.proofs.FieldLemmas.{after_those, left}
use Rattle.graph_lines.proofs.parts.numbers_at.Given as goal

abbrev pub invariant-loop-after : goal.invariant-loop-after
invariant-loop-after l =
    record { value : after_those l.numbers (each_at number_at (fields_after 44 (option_map (λ r. r.now) l.after))) ≡ each_at number_at (fields 44 l.fn.inside); numbers : Each IsNumber l.numbers; some : option_map (λ r. r.now) l.after ≡ None → 0 < length l.numbers }

abbrev pub decreases-loop-after : goal.decreases-loop-after
decreases-loop-after l = left (option_map (λ r. r.now) l.after)
