-- The limits of a line's own parts, under which its text has at most 32,768 bytes.
use Rattle.std.specs.Prelude.{ℕ, ◌≤◌, Bool, true, nat_le, IsTrue, length, ⊤}
use Rattle.predicates.specs.declared.bound.Values.{Values}
use Rattle.predicates.specs.declared.bound.Values.TheVariants.{Range, OneOf}
use Rattle.predicates.specs.Limits.{registers, most_numbers}
use Rattle.graph_data.specs.Limits.{most_edges}
use Rattle.graph_lines.specs.declared.line.Line.{Line}
use Rattle.graph_lines.specs.declared.line.Line.TheVariants as line
use Rattle.graph_lines.specs.declared.line.VertexLine.{VertexLine}
use Rattle.graph_lines.specs.declared.line.VertexLine.TheVariants as in_vertex

-- the most bytes of a line, without its line feed
abbrev pub most_line_bytes : ℕ
most_line_bytes = 32768

-- whether a list has 1,024 numbers at most
abbrev pub is_within_number_limit : Values → Bool
is_within_number_limit (Range low high) = true
is_within_number_limit (OneOf numbers) = nat_le (length numbers) most_numbers

-- 16 registers, 1,024 numbers, 64 levels, 8 names and 1,024 edges at most
abbrev pub IsWithinVertexLimits : VertexLine → Type 0
IsWithinVertexLimits (in_vertex.Registers given) = length given ≤ registers
IsWithinVertexLimits (in_vertex.Flags f) = ⊤
IsWithinVertexLimits (in_vertex.Bound b) = IsTrue (is_within_number_limit b.set)
IsWithinVertexLimits (in_vertex.Node level node) = (level ≤ 64) × (length node.names ≤ 8)
IsWithinVertexLimits (in_vertex.Edges out) = length out ≤ most_edges

-- only the lines of a vertex have parts that could be too many
abbrev pub IsWithinLineLimits : Line → Type 0
IsWithinLineLimits (line.Function entry below above) = ⊤
IsWithinLineLimits (line.Refused entry) = ⊤
IsWithinLineLimits (line.Site addr kind) = ⊤
IsWithinLineLimits (line.Vertex n) = ⊤
IsWithinLineLimits (line.InSite l) = ⊤
IsWithinLineLimits (line.InVertex l) = IsWithinVertexLimits l
IsWithinLineLimits line.End = ⊤
