use Rattle.std.proofs.Common.{◌≡◌, ◌+◌, ◌≤◌, ◌++◌, length}
use Rattle.graph_lines.specs.Words.{fields}
use Rattle.graph_builder.specs.Partial.{new_builder}
use Rattle.graph_builder.specs.Building.{IsBuilt}
use Rattle.graph_text.specs.Reading.{run}
use Rattle.graph_text.specs.ConsumedText.{read_text}
use Rattle.graph_text.proofs.read.read_lines.Given as goal

abbrev pub invariant-loop-bytes : goal.invariant-loop-bytes
invariant-loop-bytes l = record {
  exact : run l.line l.builder (fields 10 l.rest) ≡ run 2 new_builder (fields 10 l.text);
  built : IsBuilt l.builder;
  text : l.text ≡ read_text l.builder ++ l.rest;
  count : l.line + length l.rest ≤ length l.text + 2;
}

abbrev pub decreases-loop-bytes : goal.decreases-loop-bytes
decreases-loop-bytes l = length l.rest
