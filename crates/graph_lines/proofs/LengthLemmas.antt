-- The text of a line within its limits has at most 32,768 bytes.
use Rattle.std.proofs.Common.{IsTrue, ℕ, zero, suc, ◌+◌, ◌*◌, ◌^◌, ◌<◌, ◌≤◌, true, List, [], ◌∷◌, ◌++◌, length, map, codes, replicate, nat_le, Option, Some, None, refl, ap, arith, lit≤}
use Rattle.std.specs.Fmt.{decimal}
use Rattle.std.specs.Int.Digits.{digits_of}
use Rattle.std.proofs.lemmas.Bool.{agree_below_at, leb-true}
use Rattle.std.proofs.lemmas.Fmt.{decimal-digits_of, decimal_digit}
use Rattle.std.proofs.lemmas.Int.Digits.{length-digits_of-le}
use Rattle.std.proofs.lemmas.List.{length-append, length-map, length-replicate}
use Rattle.bits_core.specs.Width.{bits_of}
use Rattle.sym_terms.specs.Plain.{PlainSum}
use Rattle.sym_terms.specs.Normal.{IsTerm}
use Rattle.mem_forest.specs.Plain.{PlainNode}
use Rattle.memory_regions.specs.declared.region.Region.{Region}
use Rattle.predicates.specs.declared.bound.FlagFact.{FlagFact}
use Rattle.predicates.specs.declared.bound.Values.{Values}
use Rattle.predicates.specs.declared.bound.Values.TheVariants.{Range, OneOf}
use Rattle.predicates.specs.declared.bound.Bound.{Bound}
use Rattle.predicates.specs.declared.site.Reason.{Reason}
use Rattle.predicates.specs.declared.site.Reason.TheVariants.{Unresolved, BadReturn, Unsupported, Stop, Extern}
use Rattle.predicates.specs.declared.site.Kind.{Kind}
use Rattle.predicates.specs.declared.site.Kind.TheVariants.{Step, Call, Outside, Return, End}
use Rattle.graph_data.specs.Parts.{Each}
use Rattle.graph_data.specs.WellFormed.{IsNumber, IsKnown, IsRegion, AreNumbers, IsEdge, IsKind}
use Rattle.term_text.specs.Names.{register_name}
use Rattle.term_text.specs.Numbers.{number_text}
use Rattle.term_text.specs.Text.{sum_text}
use Rattle.term_text.proofs.NumberLemmas.{hex_short, number_short}
use Rattle.term_text.proofs.ShortLemmas.{term_short}
use Rattle.graph_lines.specs.declared.line.Line.{Line}
use Rattle.graph_lines.specs.declared.line.Line.TheVariants as line
use Rattle.graph_lines.specs.declared.line.SiteLine.TheVariants as in_site
use Rattle.graph_lines.specs.declared.line.VertexLine.TheVariants as in_vertex
use Rattle.graph_lines.specs.Words.{joined}
use Rattle.graph_lines.specs.Line.{IsGiven, IsNode, IsLine}
use Rattle.graph_lines.specs.Text.{hex, reason_text, kind_text, region_text, value_text, given_text, values_text, content_text, node_text, edge_text, line_text}
use Rattle.graph_lines.specs.LineLimits.{is_within_number_limit, IsWithinLineLimits}
use Rattle.graph_lines.proofs.TermPartLemmas.{size_small, width_small}

-- ---- words

-- words of at most m bytes each, and a separator after each
each_short : {X : Type 0} (P : X → Type 0) (text : X → List ℕ) (separator m : ℕ) → ((x : X) → P x → length (text x) ≤ m) → (xs : List X) → Each P xs → length (joined separator (map text xs)) ≤ length xs * (m + 1)
each_short P text separator m short [] all = omega arith
each_short P text separator m short (x ∷ []) all = omega (arith, short x all.0)
each_short P text separator m short (x ∷ y ∷ ys) all =
    let rest = joined separator (map text (y ∷ ys)) in
    omega (arith, length-append (text x) (separator ∷ rest), short x all.0, each_short P text separator m short (y ∷ ys) all.1)

-- ---- numbers and terms

-- a number below 10 ^ k has at most k digits
decimal_short : (k n : ℕ) → 0 < k → n < 2 ^ 64 → n < 10 ^ k → length (decimal n) ≤ k
decimal_short k zero some small lt = omega (arith, ap length (decimal_digit 0 (omega arith)), some)
decimal_short k (suc n) some small lt =
    let ds = digits_of 10 (suc n) in
    omega (arith, ap length (decimal-digits_of (suc n) (omega arith) small), length-map ds (λ d. 48 + d), length-digits_of-le 10 k (suc n) (lit≤ tt) lt)

number_digits : (n : ℕ) → n < 2 ^ 64 → length (decimal n) ≤ 20
number_digits n lt = decimal_short 20 n (omega arith) lt (omega arith)

term_bytes : (t : PlainSum) → IsTerm t → length (sum_text t) ≤ 1280
term_bytes t is = omega (arith, term_short t is, is.small)

value_short : (v : Option PlainSum) → IsKnown v → length (value_text v) ≤ 1280
value_short None known = omega arith
value_short (Some t) known = term_bytes t known

content_short : (v : Option PlainSum) → IsKnown v → length (content_text v) ≤ 1281
content_short None known = omega arith
content_short (Some t) known = omega (arith, term_bytes t known)

-- ---- functions and sites

function_short : (entry below above : ℕ) → IsLine (line.Function entry below above) → length (line_text (line.Function entry below above)) ≤ 32768
function_short entry below above is =
    let frame = decimal below ++ 32 ∷ decimal above in
    omega (arith, length-append (hex entry) (32 ∷ frame), length-append (decimal below) (32 ∷ decimal above), hex_short entry is.0, number_digits below is.1.0, number_digits above is.1.1)

refused_short : (entry : ℕ) → IsLine (line.Refused entry) → length (line_text (line.Refused entry)) ≤ 32768
refused_short entry is = omega (arith, length-append (hex entry) (32 ∷ codes "notcode"), hex_short entry is)

reason_short : (reason : Reason) → length (reason_text reason) ≤ 11
reason_short Unresolved = omega arith
reason_short BadReturn = omega arith
reason_short Unsupported = omega arith
reason_short Stop = omega arith
reason_short Extern = omega arith

kind_short : (kind : Kind) → IsKind kind → length (kind_text kind) ≤ 21
kind_short Step is = omega arith
kind_short (Call entry) is = omega (arith, hex_short entry is)
kind_short Outside is = omega arith
kind_short Return is = omega arith
kind_short (End reason) is = omega (arith, reason_short reason)

site_short : (addr : ℕ) (kind : Kind) → IsLine (line.Site addr kind) → length (line_text (line.Site addr kind)) ≤ 32768
site_short addr kind is = omega (arith, length-append (hex addr) (32 ∷ kind_text kind), hex_short addr is.0, kind_short kind is.1)

-- ---- regions

region_short : (r : Region) → IsRegion r → length (region_text r) ≤ 1303
region_short r is =
    let size = decimal r.bytes ++ 93 ∷ [] in
    omega (arith, length-append (sum_text r.at) (59 ∷ size), length-append (decimal r.bytes) (93 ∷ []), term_bytes r.at is.at, number_digits r.bytes (size_small r.bytes is.size))

regions_short : (a b : Region) → IsRegion a → IsRegion b → length (region_text a ++ 32 ∷ region_text b) ≤ 2607
regions_short a b a_is b_is = omega (arith, length-append (region_text a) (32 ∷ region_text b), region_short a a_is, region_short b b_is)

-- ---- registers

register_short : (r : ℕ) → r < 16 → length (register_name r) ≤ 3
register_short r lt = leb-true (length (register_name r)) 3 (agree_below_at (λ r. nat_le (length (register_name r)) 3) (λ r. true) 16 r refl lt)

given_short : (given : ℕ × Option PlainSum) → IsGiven given → length (given_text given) ≤ 1284
given_short given is = omega (arith, length-append (register_name given.0) (61 ∷ value_text given.1), register_short given.0 is.register, value_short given.1 is.value)

registers_short : (given : List (ℕ × Option PlainSum)) → IsLine (line.InVertex (in_vertex.Registers given)) → IsWithinLineLimits (line.InVertex (in_vertex.Registers given)) → length (line_text (line.InVertex (in_vertex.Registers given))) ≤ 32768
registers_short given is few = omega (arith, each_short IsGiven given_text 32 1284 given_short given is.0, few)

-- ---- a flag fact

fact_short : (f : FlagFact) → IsLine (line.InVertex (in_vertex.Flags f)) → length (line_text (line.InVertex (in_vertex.Flags f))) ≤ 32768
fact_short f is =
    let terms = sum_text f.left ++ 32 ∷ sum_text f.right in
    omega (arith, length-append (decimal (bits_of f.width)) (32 ∷ terms), length-append (sum_text f.left) (32 ∷ sum_text f.right), number_digits (bits_of f.width) (width_small f.width), term_bytes f.left is.0, term_bytes f.right is.1)

-- ---- a bound

values_short : (set : Values) → AreNumbers set → IsTrue (is_within_number_limit set) → length (values_text set) ≤ 19458
values_short (Range low high) are few = omega (arith, length-append (number_text low) (46 ∷ 46 ∷ number_text high), number_short low are.0, number_short high are.1)
values_short (OneOf numbers) are few =
    let list = joined 44 (map number_text numbers) in
    omega (arith, length-append list (125 ∷ []), each_short IsNumber number_text 44 18 number_short numbers are, leb-true (length numbers) 1024 few)

bound_short : (b : Bound) → IsLine (line.InVertex (in_vertex.Bound b)) → IsWithinLineLimits (line.InVertex (in_vertex.Bound b)) → length (line_text (line.InVertex (in_vertex.Bound b))) ≤ 32768
bound_short b is few = omega (arith, length-append (sum_text b.key) (32 ∷ values_text b.set), term_bytes b.key is.0.0, values_short b.set is.0.1 few)

-- ---- a node

node_short : (c : PlainNode) → IsNode c → length c.names ≤ 8 → length (node_text c) ≤ 11552
node_short c is few =
    let names = joined 124 (map sum_text c.names) in
    let value = content_text c.value in
    omega (arith, length-append names (59 ∷ (decimal c.bytes ++ 93 ∷ value)), length-append (decimal c.bytes) (93 ∷ value), each_short IsTerm sum_text 124 1280 term_bytes c.names is.names, few, number_digits c.bytes (size_small c.bytes is.size), content_short c.value is.value)

levels_short : (level : ℕ) (c : PlainNode) → IsLine (line.InVertex (in_vertex.Node level c)) → IsWithinLineLimits (line.InVertex (in_vertex.Node level c)) → length (line_text (line.InVertex (in_vertex.Node level c))) ≤ 32768
levels_short level c is few =
    omega (arith, length-append (replicate level 46) (node_text c), length-replicate {A = ℕ} level 46, few.0, node_short c is.1 few.1)

-- ---- edges

edge_short : (edge : ℕ × ℕ) → IsEdge edge → length (edge_text edge) ≤ 27
edge_short edge is = omega (arith, length-append (hex edge.0) (58 ∷ decimal edge.1), hex_short edge.0 is.0, decimal_short 10 edge.1 (omega arith) (omega (arith, is.1)) (omega (arith, is.1)))

edges_short : (out : List (ℕ × ℕ)) → IsLine (line.InVertex (in_vertex.Edges out)) → IsWithinLineLimits (line.InVertex (in_vertex.Edges out)) → length (line_text (line.InVertex (in_vertex.Edges out))) ≤ 32768
edges_short out is few = omega (arith, each_short IsEdge edge_text 32 27 edge_short out is.0, few)

-- ---- lines

-- the text of a line within its limits has at most 32,768 bytes
pub line_short : (l : Line) → IsLine l → IsWithinLineLimits l → length (line_text l) ≤ 32768
line_short (line.Function entry below above) is few = function_short entry below above is
line_short (line.Refused entry) is few = refused_short entry is
line_short (line.Site addr kind) is few = site_short addr kind is
line_short (line.InSite (in_site.Pair a b)) is few = omega (arith, regions_short a b is.0 is.1)
line_short (line.InSite (in_site.Fork a b)) is few = omega (arith, regions_short a b is.0 is.1)
line_short (line.InSite (in_site.Keep r)) is few = omega (arith, region_short r is)
line_short (line.Vertex n) is few = omega (arith, number_digits n is)
line_short (line.InVertex (in_vertex.Registers given)) is few = registers_short given is few
line_short (line.InVertex (in_vertex.Flags f)) is few = fact_short f is
line_short (line.InVertex (in_vertex.Bound b)) is few = bound_short b is few
line_short (line.InVertex (in_vertex.Node level c)) is few = levels_short level c is few
line_short (line.InVertex (in_vertex.Edges out)) is few = edges_short out is few
line_short line.End is few = omega arith
