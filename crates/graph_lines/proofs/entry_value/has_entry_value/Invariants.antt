use Rattle.std.proofs.Common.{◌≡◌, drop}
use Rattle.std.specs.List.{list_any}
use Rattle.graph_lines.specs.Line.{is_entry_value}
use Rattle.graph_lines.proofs.entry_value.has_entry_value.Given as goal

abbrev pub invariant-loop-register : goal.invariant-loop-register
invariant-loop-register l = list_any is_entry_value (drop l.register-index l.given) ≡ list_any is_entry_value l.given
