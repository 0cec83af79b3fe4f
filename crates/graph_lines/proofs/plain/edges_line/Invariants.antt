use Rattle.std.proofs.Common.{◌≡◌, ◌<◌, length, None}
use Rattle.std.specs.Option.{option_map}
use Rattle.graph_data.specs.Parts.{Each}
use Rattle.graph_data.specs.WellFormed.{IsEdge}
use Rattle.graph_lines.specs.Words.{fields, fields_after}
use Rattle.graph_lines.specs.Syntax.{each_at, edge_at}
use Rattle.graph_lines.proofs.FieldLemmas.{after_those, left}
use Rattle.graph_lines.proofs.plain.edges_line.Given as goal

abbrev pub invariant-loop-after : goal.invariant-loop-after
invariant-loop-after l = record {
  exact : after_those l.edges (each_at edge_at (fields_after 32 (option_map (λ r. r.now) l.after))) ≡ each_at edge_at (fields 32 l.fn.rest);
  edges : Each IsEdge l.edges;
  some : l.after ≡ None → 0 < length l.edges;
}

abbrev pub decreases-loop-after : goal.decreases-loop-after
decreases-loop-after l = left (option_map (λ r. r.now) l.after)
