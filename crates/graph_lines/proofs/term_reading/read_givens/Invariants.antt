use Rattle.std.proofs.Common.{◌≡◌, ◌<◌, length, None}
use Rattle.std.specs.Option.{option_map}
use Rattle.graph_data.specs.Parts.{Each}
use Rattle.graph_lines.specs.Line.{IsEntry}
use Rattle.graph_lines.specs.Words.{fields, fields_after}
use Rattle.graph_lines.specs.Steps.{each_read, entry_of}
use Rattle.graph_lines.proofs.FieldLemmas.{left}
use Rattle.graph_lines.proofs.ReadLemmas.{read_prefix}
use Rattle.graph_lines.proofs.term_reading.read_givens.Given as goal

abbrev pub invariant-loop-after : goal.invariant-loop-after
invariant-loop-after l = record {
  value : read_prefix l.given (each_read entry_of (fields_after 32 (option_map (λ r. r.now) l.after))) ≡ each_read entry_of (fields 32 l.fn.rest);
  each : Each IsEntry l.given;
  some : option_map (λ r. r.now) l.after ≡ None → 0 < length l.given;
}

abbrev pub decreases-loop-after : goal.decreases-loop-after
decreases-loop-after l = left (option_map (λ r. r.now) l.after)
