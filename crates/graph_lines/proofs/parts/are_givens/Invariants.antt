use Rattle.std.proofs.Common.{◌≡◌, is_some}
use Rattle.std.specs.Option.{option_map}
use Rattle.graph_lines.specs.Words.{fields, fields_after}
use Rattle.graph_lines.specs.Syntax.{each_at, given_at}
use Rattle.graph_lines.proofs.FieldLemmas.{left}
use Rattle.graph_lines.proofs.parts.are_givens.Given as goal

abbrev pub invariant-loop-after : goal.invariant-loop-after
invariant-loop-after l = is_some (each_at given_at (fields_after 32 (option_map (λ r. r.now) l.after))) ≡ is_some (each_at given_at (fields 32 l.fn.rest))

abbrev pub decreases-loop-after : goal.decreases-loop-after
decreases-loop-after l = left (option_map (λ r. r.now) l.after)
