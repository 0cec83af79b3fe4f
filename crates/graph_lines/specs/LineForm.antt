-- The looser form of a line: which bytes have the form of a line of a kind, with which words at the
-- places of terms, from the left.
use Rattle.std.specs.Prelude.{IsTrue, List, [], ℕ, codes, replicate}
use Rattle.term_text.specs.Bytes.{space, dot}
use Rattle.graph_lines.specs.declared.line_kind.LineKind.{LineKind}
use Rattle.graph_lines.specs.declared.line_kind.LineKind.TheVariants as line_kind
use Rattle.graph_lines.specs.declared.line_kind.SiteLineKind.{SiteLineKind}
use Rattle.graph_lines.specs.declared.line_kind.SiteLineKind.TheVariants as site_kind
use Rattle.graph_lines.specs.declared.line_kind.VertexLineKind.{VertexLineKind}
use Rattle.graph_lines.specs.declared.line_kind.VertexLineKind.TheVariants as vertex_kind
use Rattle.graph_lines.specs.Words.{are_printable}
use Rattle.graph_lines.specs.Form.{Form, just, ◌before◌, list_of, address, decimal_number, width, term, region, entry, site_claim, values, node, edge}

-- a line of a site, after its letter and space
abbrev pub site_line_form : SiteLineKind → Form
site_line_form site_kind.Pair = region before just (codes " ") before region
site_line_form site_kind.Fork = region before just (codes " ") before region
site_line_form site_kind.Keep = region

-- a line of a vertex, likewise
abbrev pub vertex_line_form : VertexLineKind → Form
vertex_line_form vertex_kind.Registers = list_of space entry
vertex_line_form vertex_kind.Flags =
    width before just (codes " ") before term before just (codes " ") before term
vertex_line_form vertex_kind.Bound = term before just (codes " ") before values
vertex_line_form (vertex_kind.Node level) = just (replicate level dot) before node
vertex_line_form vertex_kind.Edges = list_of space edge

-- a line, likewise; nothing after the last line
abbrev pub line_form : LineKind → Form
line_form line_kind.Function =
    address before just (codes " ") before decimal_number before just (codes " ") before decimal_number
line_form line_kind.Refused = address before just (codes " ") before just (codes "notcode")
line_form line_kind.Site = address before just (codes " ") before site_claim
line_form line_kind.Vertex = decimal_number
line_form (line_kind.InSite kind) = site_line_form kind
line_form (line_kind.InVertex kind) = vertex_line_form kind
line_form line_kind.End = just []

-- how a line of a vertex begins
abbrev pub begin_of_vertex_line : VertexLineKind → List ℕ
begin_of_vertex_line vertex_kind.Registers = codes "r "
begin_of_vertex_line vertex_kind.Flags = codes "z "
begin_of_vertex_line vertex_kind.Bound = codes "b "
begin_of_vertex_line (vertex_kind.Node level) = codes "c "
begin_of_vertex_line vertex_kind.Edges = codes "> "

-- how a line begins, and the whole last line
abbrev pub begin_of : LineKind → List ℕ
begin_of line_kind.Function = codes "f "
begin_of line_kind.Refused = codes "x "
begin_of line_kind.Site = codes "s "
begin_of line_kind.Vertex = codes "v "
begin_of (line_kind.InSite site_kind.Pair) = codes "p "
begin_of (line_kind.InSite site_kind.Fork) = codes "g "
begin_of (line_kind.InSite site_kind.Keep) = codes "k "
begin_of (line_kind.InVertex kind) = begin_of_vertex_line kind
begin_of line_kind.End = codes "end"

-- bytes of a line, which begins as its kind does and goes on in its form
abbrev pub HasForm : LineKind → Form
HasForm kind words bytes =
    IsTrue (are_printable bytes) × (just (begin_of kind) before line_form kind) words bytes
