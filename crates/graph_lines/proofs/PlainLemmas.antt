-- The lines without terms: what is written is read again, and may stand in a line.
use Rattle.std.proofs.Common.{◌≡◌, ℕ, ◌^◌, ◌<◌, true, ltb, List, [], ◌∷◌, ◌++◌, length, map, drop, codes, Some, Ok, refl, arith}
use Rattle.std.specs.Fmt.{decimal}
use Rattle.std.proofs.lemmas.Bool.{lt-ltb}
use Rattle.predicates.specs.declared.site.Reason.TheVariants.{Unresolved, BadReturn, Unsupported, Stop, Extern}
use Rattle.predicates.specs.declared.site.Kind.{Kind}
use Rattle.predicates.specs.declared.site.Kind.TheVariants.{Step, Call, Outside, Return, End}
use Rattle.graph_data.specs.WellFormed.{IsKind, IsEdge}
use Rattle.term_text.proofs.NumberLemmas.{hex_reads, decimal_reads}
use Rattle.graph_lines.specs.declared.line.Line.{Line}
use Rattle.graph_lines.specs.declared.line.Line.TheVariants as line
use Rattle.graph_lines.specs.declared.line.VertexLine.TheVariants as in_vertex
use Rattle.graph_lines.specs.Words.{are_printable}
use Rattle.graph_lines.specs.Line.{IsLine}
use Rattle.graph_lines.specs.Text.{hex, kind_text, edge_text, line_text}
use Rattle.graph_lines.specs.LineKind.{kind_of_line}
use Rattle.graph_lines.specs.Syntax.{kind_at, function_line, refused_line, site_line, vertex_line, edge_at, edges_line}
use Rattle.graph_lines.specs.Steps.{loose_vertex_line, loose_line}
use Rattle.graph_lines.proofs.WordLemmas.{has_none, split_joined, fields_joined}
use Rattle.graph_lines.proofs.EachLemmas.{each_reads, each_passes}
use Rattle.graph_lines.proofs.ByteLemmas.{hex_free, decimal_free, hex_printable, decimal_printable, all_both, all_joined}

-- the line is read again after its letter and space
abbrev pub Again : Line → Type 0
Again l = loose_line (kind_of_line l) (drop 2 (line_text l)) ≡ Ok l

-- ---- a function

pub function_again : (entry below above : ℕ) → IsLine (line.Function entry below above) → Again (line.Function entry below above)
unfolding loose_line function_line
function_again entry below above is =
    let first = split_joined 32 (hex entry) (decimal below ++ 32 ∷ decimal above) (hex_free 32 entry refl is.0) in
    let second = split_joined 32 (decimal below) (decimal above) (decimal_free 32 below refl is.1.0) in
    rw (first, second, hex_reads entry is.0, decimal_reads below is.1.0, decimal_reads above is.1.1) refl

pub function_printable : (entry below above : ℕ) → IsLine (line.Function entry below above) → are_printable (line_text (line.Function entry below above)) ≡ true
function_printable entry below above is =
    all_both _ (hex entry) (32 ∷ (decimal below ++ 32 ∷ decimal above)) (hex_printable entry is.0)
    (all_both _ (decimal below) (32 ∷ decimal above) (decimal_printable below is.1.0) (decimal_printable above is.1.1))

-- ---- a refused function

pub refused_again : (entry : ℕ) → IsLine (line.Refused entry) → Again (line.Refused entry)
unfolding loose_line refused_line
refused_again entry is =
    let first = split_joined 32 (hex entry) (codes "notcode") (hex_free 32 entry refl is) in
    rw (first, hex_reads entry is) refl

pub refused_printable : (entry : ℕ) → IsLine (line.Refused entry) → are_printable (line_text (line.Refused entry)) ≡ true
refused_printable entry is = all_both _ (hex entry) (32 ∷ codes "notcode") (hex_printable entry is) refl

-- ---- a site

kind_reads : (kind : Kind) → IsKind kind → kind_at (kind_text kind) ≡ Some kind
unfolding kind_at
kind_reads Step is = refl
kind_reads (Call entry) is = rw (hex_reads entry is) refl
kind_reads Outside is = refl
kind_reads Return is = refl
kind_reads (End Unresolved) is = refl
kind_reads (End BadReturn) is = refl
kind_reads (End Unsupported) is = refl
kind_reads (End Stop) is = refl
kind_reads (End Extern) is = refl

kind_printable : (kind : Kind) → IsKind kind → are_printable (kind_text kind) ≡ true
kind_printable Step is = refl
kind_printable (Call entry) is = hex_printable entry is
kind_printable Outside is = refl
kind_printable Return is = refl
kind_printable (End Unresolved) is = refl
kind_printable (End BadReturn) is = refl
kind_printable (End Unsupported) is = refl
kind_printable (End Stop) is = refl
kind_printable (End Extern) is = refl

pub site_again : (addr : ℕ) (kind : Kind) → IsLine (line.Site addr kind) → Again (line.Site addr kind)
unfolding loose_line site_line
site_again addr kind is =
    let first = split_joined 32 (hex addr) (kind_text kind) (hex_free 32 addr refl is.0) in
    rw (first, hex_reads addr is.0, kind_reads kind is.1) refl

pub site_printable : (addr : ℕ) (kind : Kind) → IsLine (line.Site addr kind) → are_printable (line_text (line.Site addr kind)) ≡ true
site_printable addr kind is = all_both _ (hex addr) (32 ∷ kind_text kind) (hex_printable addr is.0) (kind_printable kind is.1)

-- ---- a vertex

pub vertex_again : (n : ℕ) → IsLine (line.Vertex n) → Again (line.Vertex n)
unfolding loose_line vertex_line
vertex_again n is = rw (decimal_reads n is) refl

pub vertex_printable : (n : ℕ) → IsLine (line.Vertex n) → are_printable (line_text (line.Vertex n)) ≡ true
vertex_printable n is = decimal_printable n is

-- ---- edges

fits : (n : ℕ) → n < 2 ^ 32 → n < 2 ^ 64
fits n lt = omega (arith, lt)

edge_reads : (edge : ℕ × ℕ) → IsEdge edge → edge_at (edge_text edge) ≡ Some edge
unfolding edge_at
edge_reads edge is =
    let first = split_joined 58 (hex edge.0) (decimal edge.1) (hex_free 58 edge.0 refl is.0) in
    let small : ltb edge.1 (2 ^ 32) ≡ true = lt-ltb edge.1 (2 ^ 32) is.1 in
    rw (first, hex_reads edge.0 is.0, decimal_reads edge.1 (fits edge.1 is.1), small) refl

edge_free : (edge : ℕ × ℕ) → IsEdge edge → has_none 32 (edge_text edge) ≡ true
edge_free edge is = all_both _ (hex edge.0) (58 ∷ decimal edge.1) (hex_free 32 edge.0 refl is.0) (decimal_free 32 edge.1 refl (fits edge.1 is.1))

edge_printable : (edge : ℕ × ℕ) → IsEdge edge → are_printable (edge_text edge) ≡ true
edge_printable edge is = all_both _ (hex edge.0) (58 ∷ decimal edge.1) (hex_printable edge.0 is.0) (decimal_printable edge.1 (fits edge.1 is.1))

some_mapped : {X : Type 0} (text : X → List ℕ) (xs : List X) → 0 < length xs → 0 < length (map text xs)
some_mapped text [] some = some
some_mapped text (x ∷ xs) some = omega arith

pub edges_again : (out : List (ℕ × ℕ)) → IsLine (line.InVertex (in_vertex.Edges out)) → Again (line.InVertex (in_vertex.Edges out))
unfolding loose_line loose_vertex_line edges_line
edges_again out is =
    let parted = fields_joined 32 (map edge_text out) (some_mapped edge_text out is.1) (each_passes IsEdge edge_text (has_none 32) edge_free out is.0) in
    rw (parted, each_reads IsEdge edge_text edge_at edge_reads out is.0) refl

pub edges_printable : (out : List (ℕ × ℕ)) → IsLine (line.InVertex (in_vertex.Edges out)) → are_printable (line_text (line.InVertex (in_vertex.Edges out))) ≡ true
edges_printable out is = all_joined _ 32 (map edge_text out) refl (each_passes IsEdge edge_text are_printable edge_printable out is.0)

-- ---- the last line

pub end_again : Again line.End
unfolding loose_line
end_again = refl
