-- The one text of a line, without its line feed.
use Rattle.std.specs.Prelude.{ℕ, false, Option, Some, None, List, [], ◌∷◌, ◌++◌, codes, map, replicate}
use Rattle.std.specs.Fmt.{decimal, digits}
use Rattle.bits_core.specs.Width.{bits_of}
use Rattle.sym_terms.specs.Plain.{PlainSum}
use Rattle.mem_forest.specs.Plain.{PlainNode}
use Rattle.memory_regions.specs.declared.region.Region.{Region}
use Rattle.predicates.specs.declared.bound.FlagFact.{FlagFact}
use Rattle.predicates.specs.declared.bound.Values.{Values}
use Rattle.predicates.specs.declared.bound.Values.TheVariants.{Range, OneOf}
use Rattle.predicates.specs.declared.bound.Bound.{Bound}
use Rattle.predicates.specs.declared.site.Reason.{Reason}
use Rattle.predicates.specs.declared.site.Reason.TheVariants.{Unresolved, BadReturn, Unsupported, Stop, Extern}
use Rattle.predicates.specs.declared.site.Kind.{Kind}
use Rattle.predicates.specs.declared.site.Kind.TheVariants.{Step, Call, Outside, Return, End}
use Rattle.term_text.specs.Bytes.{space, dot, comma_byte, bar}
use Rattle.term_text.specs.Names.{register_name}
use Rattle.term_text.specs.Numbers.{number_text}
use Rattle.term_text.specs.Text.{sum_text}
use Rattle.graph_lines.specs.declared.line.Line.{Line}
use Rattle.graph_lines.specs.declared.line.Line.TheVariants as line
use Rattle.graph_lines.specs.declared.line.SiteLine.{SiteLine}
use Rattle.graph_lines.specs.declared.line.SiteLine.TheVariants as in_site
use Rattle.graph_lines.specs.declared.line.VertexLine.{VertexLine}
use Rattle.graph_lines.specs.declared.line.VertexLine.TheVariants as in_vertex
use Rattle.graph_lines.specs.Words.{joined}

-- an address: lower-case hexadecimal without leading zeros
abbrev pub hex : ℕ → List ℕ
hex n = digits 16 false n

-- words with a space between them
abbrev pub spaced : List (List ℕ) → List ℕ
spaced words = joined space words

-- why nothing is claimed after a site
abbrev pub reason_text : Reason → List ℕ
reason_text Unresolved = codes "unresolved"
reason_text BadReturn = codes "badreturn"
reason_text Unsupported = codes "unsupported"
reason_text Stop = codes "stop"
reason_text Extern = codes "extern"

-- what is claimed of a site's instruction
abbrev pub kind_text : Kind → List ℕ
kind_text Step = codes "step"
kind_text (Call entry) = codes "call " ++ hex entry
kind_text Outside = codes "outside"
kind_text Return = codes "ret"
kind_text (End reason) = codes "end " ++ reason_text reason

-- `[TERM;BYTES]`
abbrev pub region_text : Region → List ℕ
region_text r = codes "[" ++ (sum_text r.at ++ (codes ";" ++ (decimal r.bytes ++ codes "]")))

-- a term, or `?` for what is unknown
abbrev pub value_text : Option PlainSum → List ℕ
value_text (Some t) = sum_text t
value_text None = codes "?"

-- `REG=TERM`
abbrev pub given_text : ℕ × Option PlainSum → List ℕ
given_text given = register_name given.0 ++ (codes "=" ++ value_text given.1)

-- `W TERM TERM`
abbrev pub fact_text : FlagFact → List ℕ
fact_text f = spaced (decimal (bits_of f.width) ∷ sum_text f.left ∷ sum_text f.right ∷ [])

-- `LO..HI`, or numbers in braces
abbrev pub values_text : Values → List ℕ
values_text (Range low high) = number_text low ++ (codes ".." ++ number_text high)
values_text (OneOf numbers) =
    codes "{" ++ (joined comma_byte (map number_text numbers) ++ codes "}")

-- `TERM VALUES`
abbrev pub bound_text : Bound → List ℕ
bound_text b = spaced (sum_text b.key ∷ values_text b.set ∷ [])

-- `=TERM` where the value is known
abbrev pub content_text : Option PlainSum → List ℕ
content_text (Some t) = codes "=" ++ sum_text t
content_text None = []

-- `[NAME|NAME;BYTES]=TERM`
abbrev pub node_text : PlainNode → List ℕ
node_text c =
    codes "[" ++ (joined bar (map sum_text c.names)
    ++ (codes ";" ++ (decimal c.bytes ++ (codes "]" ++ content_text c.value))))

-- `ADDR:N`
abbrev pub edge_text : ℕ × ℕ → List ℕ
edge_text edge = hex edge.0 ++ (codes ":" ++ decimal edge.1)

-- `p REGION REGION`, `g REGION REGION` or `k REGION`
abbrev pub site_line_text : SiteLine → List ℕ
site_line_text (in_site.Pair a b) = codes "p " ++ spaced (region_text a ∷ region_text b ∷ [])
site_line_text (in_site.Fork a b) = codes "g " ++ spaced (region_text a ∷ region_text b ∷ [])
site_line_text (in_site.Keep r) = codes "k " ++ region_text r

-- a letter and a space, then the line's own part
abbrev pub vertex_line_text : VertexLine → List ℕ
vertex_line_text (in_vertex.Registers given) = codes "r " ++ spaced (map given_text given)
vertex_line_text (in_vertex.Flags f) = codes "z " ++ fact_text f
vertex_line_text (in_vertex.Bound b) = codes "b " ++ bound_text b
vertex_line_text (in_vertex.Node level node) =
    codes "c " ++ (replicate level dot ++ node_text node)
vertex_line_text (in_vertex.Edges out) = codes "> " ++ spaced (map edge_text out)

-- a letter and a space first, but for the last line
abbrev pub line_text : Line → List ℕ
line_text (line.Function entry below above) =
    codes "f " ++ spaced (hex entry ∷ decimal below ∷ decimal above ∷ [])
line_text (line.Refused entry) = codes "x " ++ spaced (hex entry ∷ codes "notcode" ∷ [])
line_text (line.Site addr kind) = codes "s " ++ spaced (hex addr ∷ kind_text kind ∷ [])
line_text (line.Vertex n) = codes "v " ++ decimal n
line_text (line.InSite l) = site_line_text l
line_text (line.InVertex l) = vertex_line_text l
line_text line.End = codes "end"
