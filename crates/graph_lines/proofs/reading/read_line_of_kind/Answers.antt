use Rattle.std.proofs.Common.{not, sym, ◌∙◌}
use Rattle.std.specs.Str.{bytes_eq}
use Rattle.std.proofs.lemmas.Bool.{and_parts, not-true}
use Rattle.std.proofs.lemmas.Slice.Eq.{bytes_eq-Decides}
use Rattle.graph_lines.specs.Text.{line_text}
use Rattle.graph_lines.specs.Steps.{restates_entry_value}
use Rattle.graph_lines.proofs.reading.read_line_of_kind.Goals as goal

pub returns-then-branch-clause-found : goal.returns-then-branch-clause-found
returns-then-branch-clause-found c =
    let l = c.in_ok-line.line in
    let h = and_parts (bytes_eq (line_text l) c.args.bytes.now) (not (restates_entry_value l)) (sym c.in_ok-is_spelled.ensures ∙ c.if-branch.true) in
    (c.in_ok-line.ensures.line (not-true _ h.1), sym ((bytes_eq-Decides (line_text l) c.args.bytes.now).0 h.0))
