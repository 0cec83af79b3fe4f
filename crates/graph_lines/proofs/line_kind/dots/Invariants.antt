use Rattle.std.proofs.Common.{◌≡◌, ◌+◌, drop}
use Rattle.graph_lines.specs.LineKind.{dots}
use Rattle.graph_lines.proofs.line_kind.dots.Given as goal

abbrev pub invariant-loop-count : goal.invariant-loop-count
invariant-loop-count l = l.count + dots (drop l.count l.bytes) ≡ dots l.bytes
