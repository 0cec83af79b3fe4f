-- The steps of the reader: what has its form goes on to its terms, from the left. What they find in a line is
-- what the forms of `Form` say, by `LineOfKindLaw` of `Reading`: nothing else is to be read here.
use Rattle.std.specs.Prelude.{ℕ, Bool, false, not, ◌&&◌, if◌then◌else◌, Option, Some, None, List, [], ◌∷◌, codes, drop}
use Rattle.std.specs.declared.result.Result.{Result}
use Rattle.std.specs.declared.result.Result.TheVariants.{Ok, Err}
use Rattle.std.specs.Str.{bytes_eq}
use Rattle.std.specs.List.{list_any}
use Rattle.bits_core.specs.declared.width.Width.{Width}
use Rattle.sym_terms.specs.Plain.{PlainSum}
use Rattle.mem_forest.specs.Plain.{none, PlainNode}
use Rattle.memory_regions.specs.declared.region.Region.{Region}
use Rattle.predicates.specs.declared.bound.Values.{Values}
use Rattle.term_text.specs.declared.cause.TextCause.{TextCause}
use Rattle.term_text.specs.declared.cause.TextCause.TheVariants.{NotCanonical}
use Rattle.term_text.specs.Reading.{term_at}
use Rattle.graph_lines.specs.declared.line.Line.{Line}
use Rattle.graph_lines.specs.declared.line.Line.TheVariants as line
use Rattle.graph_lines.specs.declared.line.SiteLine.TheVariants as in_site
use Rattle.graph_lines.specs.declared.line.VertexLine.{VertexLine}
use Rattle.graph_lines.specs.declared.line.VertexLine.TheVariants as in_vertex
use Rattle.graph_lines.specs.declared.line_kind.LineKind.{LineKind}
use Rattle.graph_lines.specs.declared.line_kind.LineKind.TheVariants as line_kind
use Rattle.graph_lines.specs.declared.line_kind.SiteLineKind.{SiteLineKind}
use Rattle.graph_lines.specs.declared.line_kind.SiteLineKind.TheVariants as site_kind
use Rattle.graph_lines.specs.declared.line_kind.VertexLineKind.{VertexLineKind}
use Rattle.graph_lines.specs.declared.line_kind.VertexLineKind.TheVariants as vertex_kind
use Rattle.graph_lines.specs.Line.{is_entry_value}
use Rattle.graph_lines.specs.Text.{line_text}
use Rattle.graph_lines.specs.Then.{and_then, or_bad_line}
use Rattle.graph_lines.specs.Syntax.{function_line, refused_line, site_line, vertex_line, edges_line, region_at, regions_at, given_at, givens_at, fact_at, bound_at, node_at}

-- each of a list, from the left
abbrev pub each_read : {A B : Type 0}
    → (A → Result B TextCause) → List A → Result (List B) TextCause
each_read read [] = Ok []
each_read read (x ∷ xs) = and_then (read x) (λ y. and_then (each_read read xs) (λ ys. Ok (y ∷ ys)))

-- a region
abbrev pub region_of : List ℕ × ℕ → Result Region TextCause
region_of loose = and_then (term_at loose.0) (λ t. Ok (record { at = t; bytes = loose.1 }))

-- two regions
abbrev pub pair_of : (List ℕ × ℕ) × (List ℕ × ℕ) → Result (Region × Region) TextCause
pair_of loose = and_then (region_of loose.0) (λ a. and_then (region_of loose.1) (λ b. Ok (a, b)))

-- `?` is what is unknown
abbrev pub given_of : ℕ × List ℕ → Result (ℕ × Option PlainSum) TextCause
given_of loose =
    if bytes_eq loose.1 (codes "?") then Ok (loose.0, None)
    else and_then (term_at loose.1) (λ t. Ok (loose.0, Some t))

-- an entry of a line of registers
abbrev pub entry_of : List ℕ → Result (ℕ × Option PlainSum) TextCause
entry_of word = or_bad_line (given_at word) given_of

-- a flag fact
abbrev pub fact_of : Width × (List ℕ × List ℕ) → Result Line TextCause
fact_of loose =
    and_then (term_at loose.1.0) (λ l. and_then (term_at loose.1.1) (λ r.
    Ok (line.InVertex (in_vertex.Flags (record { width = loose.0; left = l; right = r })))))

-- a bound
abbrev pub bound_of : List ℕ × Values → Result Line TextCause
bound_of loose =
    and_then (term_at loose.0) (λ t. Ok (line.InVertex (in_vertex.Bound (record { key = t; set = loose.1 }))))

-- the value of a node
abbrev pub value_of : Option (List ℕ) → Result (Option PlainSum) TextCause
value_of None = Ok None
value_of (Some word) = and_then (term_at word) (λ t. Ok (Some t))

-- a node with none under it
abbrev pub node_of : List (List ℕ) × (ℕ × Option (List ℕ)) → Result PlainNode TextCause
node_of loose =
    and_then (each_read term_at loose.0) (λ names. and_then (value_of loose.1.1) (λ value.
    Ok (record { names = names; bytes = loose.1.0; value = value; under = none })))

-- a line of a site before its first vertex, whatever the spelling of its numbers, from what is after
-- the letter and the space
unfoldable pub loose_site_line : SiteLineKind → List ℕ → Result Line TextCause
loose_site_line site_kind.Pair rest =
    or_bad_line (regions_at rest) (λ loose.
    and_then (pair_of loose) (λ p. Ok (line.InSite (in_site.Pair p.0 p.1))))
loose_site_line site_kind.Fork rest =
    or_bad_line (regions_at rest) (λ loose.
    and_then (pair_of loose) (λ p. Ok (line.InSite (in_site.Fork p.0 p.1))))
loose_site_line site_kind.Keep rest =
    or_bad_line (region_at rest) (λ loose.
    and_then (region_of loose) (λ r. Ok (line.InSite (in_site.Keep r))))

-- a line of a vertex, likewise
unfoldable pub loose_vertex_line : VertexLineKind → List ℕ → Result Line TextCause
loose_vertex_line vertex_kind.Registers rest =
    or_bad_line (givens_at rest) (λ loose.
    and_then (each_read given_of loose) (λ given. Ok (line.InVertex (in_vertex.Registers given))))
loose_vertex_line vertex_kind.Flags rest = or_bad_line (fact_at rest) fact_of
loose_vertex_line vertex_kind.Bound rest = or_bad_line (bound_at rest) bound_of
loose_vertex_line (vertex_kind.Node level) rest =
    or_bad_line (node_at (drop level rest)) (λ loose.
    and_then (node_of loose) (λ node. Ok (line.InVertex (in_vertex.Node level node))))
loose_vertex_line vertex_kind.Edges rest = or_bad_line (edges_line rest) Ok

-- a line of a kind, whatever the spelling of its numbers, from what is after the letter and the
-- space
unfoldable pub loose_line : LineKind → List ℕ → Result Line TextCause
loose_line line_kind.Function rest = or_bad_line (function_line rest) Ok
loose_line line_kind.Refused rest = or_bad_line (refused_line rest) Ok
loose_line line_kind.Site rest = or_bad_line (site_line rest) Ok
loose_line line_kind.Vertex rest = or_bad_line (vertex_line rest) Ok
loose_line (line_kind.InSite kind) rest = loose_site_line kind rest
loose_line (line_kind.InVertex kind) rest = loose_vertex_line kind rest
loose_line line_kind.End rest = Ok line.End

-- whether a register is given its own entry symbol, in a line of a vertex
abbrev pub restates_in_vertex : VertexLine → Bool
restates_in_vertex (in_vertex.Registers given) = list_any is_entry_value given
restates_in_vertex (in_vertex.Flags f) = false
restates_in_vertex (in_vertex.Bound b) = false
restates_in_vertex (in_vertex.Node level node) = false
restates_in_vertex (in_vertex.Edges out) = false

-- whether a register is given its own entry symbol
abbrev pub restates_entry_value : Line → Bool
restates_entry_value (line.Function entry below above) = false
restates_entry_value (line.Refused entry) = false
restates_entry_value (line.Site addr kind) = false
restates_entry_value (line.Vertex n) = false
restates_entry_value (line.InSite l) = false
restates_entry_value (line.InVertex l) = restates_in_vertex l
restates_entry_value line.End = false

-- the line, where the bytes are its text and no register is given its own entry symbol
abbrev pub spelled : List ℕ → Line → Result Line TextCause
spelled bytes l =
    if bytes_eq (line_text l) bytes && not (restates_entry_value l) then Ok l else Err NotCanonical
