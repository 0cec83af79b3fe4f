-- The kind of a line, by how it begins.
use Rattle.std.specs.Prelude.{ℕ, suc, ◌==◌, if◌then◌else◌, Option, Some, None, List, [], ◌∷◌, codes}
use Rattle.std.specs.Str.{bytes_eq}
use Rattle.term_text.specs.Bytes.{space, dot, greater_sign, letter_b, letter_c, letter_f, letter_g, letter_k, letter_p, letter_r, letter_s, letter_v, letter_x, letter_z}
use Rattle.graph_lines.specs.declared.line.Line.{Line}
use Rattle.graph_lines.specs.declared.line.Line.TheVariants as line
use Rattle.graph_lines.specs.declared.line.SiteLine.{SiteLine}
use Rattle.graph_lines.specs.declared.line.SiteLine.TheVariants as in_site
use Rattle.graph_lines.specs.declared.line.VertexLine.{VertexLine}
use Rattle.graph_lines.specs.declared.line.VertexLine.TheVariants as in_vertex
use Rattle.graph_lines.specs.declared.line_kind.LineKind.{LineKind}
use Rattle.graph_lines.specs.declared.line_kind.LineKind.TheVariants as line_kind
use Rattle.graph_lines.specs.declared.line_kind.SiteLineKind.{SiteLineKind}
use Rattle.graph_lines.specs.declared.line_kind.SiteLineKind.TheVariants as site_kind
use Rattle.graph_lines.specs.declared.line_kind.VertexLineKind.{VertexLineKind}
use Rattle.graph_lines.specs.declared.line_kind.VertexLineKind.TheVariants as vertex_kind

-- the dots before anything else
abbrev pub dots : List ℕ → ℕ
dots [] = 0
dots (b ∷ bs) = if b == dot then suc (dots bs) else 0

-- the kind of a line that begins with a letter and a space, by the letter and what stands after
-- the space
abbrev pub kind_of_letter : ℕ → List ℕ → Option LineKind
kind_of_letter letter rest =
    if letter == letter_f then Some line_kind.Function
    else (if letter == letter_x then Some line_kind.Refused
    else (if letter == letter_s then Some line_kind.Site
    else (if letter == letter_p then Some (line_kind.InSite site_kind.Pair)
    else (if letter == letter_g then Some (line_kind.InSite site_kind.Fork)
    else (if letter == letter_k then Some (line_kind.InSite site_kind.Keep)
    else (if letter == letter_v then Some line_kind.Vertex
    else (if letter == letter_r then Some (line_kind.InVertex vertex_kind.Registers)
    else (if letter == letter_z then Some (line_kind.InVertex vertex_kind.Flags)
    else (if letter == letter_b then Some (line_kind.InVertex vertex_kind.Bound)
    else (if letter == letter_c then Some (line_kind.InVertex (vertex_kind.Node (dots rest)))
    else (if letter == greater_sign then Some (line_kind.InVertex vertex_kind.Edges)
    else None)))))))))))

-- the kind of a line, by a letter and a space before, or as the last line
abbrev pub kind_of_bytes : List ℕ → Option LineKind
kind_of_bytes [] = None
kind_of_bytes (a ∷ []) = None
kind_of_bytes (a ∷ b ∷ rest) =
    if b == space then kind_of_letter a rest
    else (if bytes_eq (a ∷ b ∷ rest) (codes "end") then Some line_kind.End else None)

-- the kind of a line of a site
abbrev pub kind_of_site_line : SiteLine → SiteLineKind
kind_of_site_line (in_site.Pair a b) = site_kind.Pair
kind_of_site_line (in_site.Fork a b) = site_kind.Fork
kind_of_site_line (in_site.Keep r) = site_kind.Keep

-- the kind of a line of a vertex; a node's has its level
abbrev pub kind_of_vertex_line : VertexLine → VertexLineKind
kind_of_vertex_line (in_vertex.Registers given) = vertex_kind.Registers
kind_of_vertex_line (in_vertex.Flags f) = vertex_kind.Flags
kind_of_vertex_line (in_vertex.Bound b) = vertex_kind.Bound
kind_of_vertex_line (in_vertex.Node level node) = vertex_kind.Node level
kind_of_vertex_line (in_vertex.Edges out) = vertex_kind.Edges

-- the kind of a line
abbrev pub kind_of_line : Line → LineKind
kind_of_line (line.Function entry below above) = line_kind.Function
kind_of_line (line.Refused entry) = line_kind.Refused
kind_of_line (line.Site addr kind) = line_kind.Site
kind_of_line (line.Vertex n) = line_kind.Vertex
kind_of_line (line.InSite l) = line_kind.InSite (kind_of_site_line l)
kind_of_line (line.InVertex l) = line_kind.InVertex (kind_of_vertex_line l)
kind_of_line line.End = line_kind.End
