-- The kind of a line is told by its text.
use Rattle.std.proofs.Common.{◌≡◌, ◌≤◌, ℕ, zero, suc, List, [], ◌∷◌, ◌++◌, length, replicate, Some, refl, ap, arith}
use Rattle.graph_lines.specs.declared.line.Line.{Line}
use Rattle.graph_lines.specs.declared.line.Line.TheVariants as line
use Rattle.graph_lines.specs.declared.line.SiteLine.TheVariants as in_site
use Rattle.graph_lines.specs.declared.line.VertexLine.TheVariants as in_vertex
use Rattle.graph_lines.specs.declared.line_kind.LineKind.{LineKind}
use Rattle.graph_lines.specs.declared.line_kind.LineKind.TheVariants as line_kind
use Rattle.graph_lines.specs.declared.line_kind.VertexLineKind.TheVariants as vertex_kind
use Rattle.graph_lines.specs.Text.{line_text}
use Rattle.graph_lines.specs.LineKind.{dots, kind_of_bytes, kind_of_line}

-- dots before a `[`
pub dots_are : (level : ℕ) (rest : List ℕ) → dots (replicate level 46 ++ 91 ∷ rest) ≡ level
dots_are zero rest = refl
dots_are (suc level) rest = ap suc (dots_are level rest)

-- the kind of a line is that of its text
pub kind_of_text : (l : Line) → kind_of_bytes (line_text l) ≡ Some (kind_of_line l)
kind_of_text (line.Function entry below above) = refl
kind_of_text (line.Refused entry) = refl
kind_of_text (line.Site addr kind) = refl
kind_of_text (line.InSite (in_site.Pair a b)) = refl
kind_of_text (line.InSite (in_site.Fork a b)) = refl
kind_of_text (line.InSite (in_site.Keep r)) = refl
kind_of_text (line.Vertex n) = refl
kind_of_text (line.InVertex (in_vertex.Registers given)) = refl
kind_of_text (line.InVertex (in_vertex.Flags f)) = refl
kind_of_text (line.InVertex (in_vertex.Bound b)) = refl
kind_of_text (line.InVertex (in_vertex.Node level node)) = ap (λ (n : ℕ). Some (line_kind.InVertex (vertex_kind.Node n))) (dots_are level _)
kind_of_text (line.InVertex (in_vertex.Edges out)) = refl
kind_of_text line.End = refl

-- bytes that have a kind are two at least
pub kind_begins : (bytes : List ℕ) (kind : LineKind) → kind_of_bytes bytes ≡ Some kind → 2 ≤ length bytes
kind_begins [] kind e = absurd (cc)
kind_begins (a ∷ []) kind e = absurd (cc)
kind_begins (a ∷ b ∷ rest) kind e = omega arith
