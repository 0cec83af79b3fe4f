use Rattle.std.proofs.Common.{◌≡◌, ◌<◌, length, None}
use Rattle.std.specs.Option.{option_map}
use Rattle.sym_terms.specs.Normal.{IsTerm}
use Rattle.graph_data.specs.Parts.{Each}
use Rattle.term_text.specs.Reading.{term_at}
use Rattle.graph_lines.specs.Words.{fields, fields_after}
use Rattle.graph_lines.specs.Steps.{each_read}
use Rattle.graph_lines.proofs.FieldLemmas.{left}
use Rattle.graph_lines.proofs.ReadLemmas.{read_prefix}
use Rattle.graph_lines.proofs.term_reading.read_names.Given as goal

abbrev pub invariant-loop-after : goal.invariant-loop-after
invariant-loop-after l = record {
  value : read_prefix l.terms.items (each_read term_at (fields_after 124 (option_map (λ r. r.now) l.after))) ≡ each_read term_at (fields 124 l.fn.names);
  each : Each IsTerm l.terms.items;
  some : option_map (λ r. r.now) l.after ≡ None → 0 < length l.terms.items;
}

abbrev pub decreases-loop-after : goal.decreases-loop-after
decreases-loop-after l = left (option_map (λ r. r.now) l.after)
