-- What the parts of a line are: numbers in their ranges, terms, regions of a written size, and no
-- empty list.
use Rattle.std.specs.Prelude.{◌≡◌, ℕ, ◌<◌, Bool, false, IsTrue, Option, Some, None, length, ⊤}
use Rattle.std.specs.Ordering.{is_eq}
use Rattle.sym_terms.specs.declared.kinds.Sym.TheVariants.{Entry}
use Rattle.sym_terms.specs.Plain.{PlainSum, single_atom, symbol}
use Rattle.sym_terms.specs.Normal.{IsTerm}
use Rattle.sym_terms.specs.Order.{sum_cmp}
use Rattle.mem_forest.specs.Plain.{none, PlainNode}
use Rattle.mem_forest.specs.Shape.{is_size}
use Rattle.predicates.specs.declared.bound.Values.{Values}
use Rattle.predicates.specs.declared.bound.Values.TheVariants.{Range, OneOf}
use Rattle.predicates.specs.declared.bound.Bound.{Bound}
use Rattle.memory_regions.specs.declared.region.Region.{Region}
use Rattle.graph_data.specs.Parts.{Each}
use Rattle.graph_data.specs.WellFormed.{IsNumber, IsKnown, IsRegion, IsFact, IsBound, IsEdge, IsKind}
use Rattle.graph_lines.specs.declared.line.Line.{Line}
use Rattle.graph_lines.specs.declared.line.Line.TheVariants as line
use Rattle.graph_lines.specs.declared.line.SiteLine.{SiteLine}
use Rattle.graph_lines.specs.declared.line.SiteLine.TheVariants as in_site
use Rattle.graph_lines.specs.declared.line.VertexLine.{VertexLine}
use Rattle.graph_lines.specs.declared.line.VertexLine.TheVariants as in_vertex

-- whether a register is given its own entry symbol, which no line says
abbrev pub is_entry_value : ℕ × Option PlainSum → Bool
is_entry_value (r, None) = false
is_entry_value (r, Some t) = is_eq (sum_cmp t (single_atom (symbol (Entry r))))

-- a register by number, unknown or with a term
abbrev pub IsEntry : ℕ × Option PlainSum → Type 0
IsEntry given = (given.0 < 16) × IsKnown given.1

-- a register by number, unknown or with a term that isn't its own entry symbol
pub record IsGiven (given : ℕ × Option PlainSum) : Type 0 where
  pub register : given.0 < 16
  pub value : IsKnown given.1
  pub other : is_entry_value given ≡ false

-- names, one at least, a written size, and none under it
pub record IsNode (node : PlainNode) : Type 0 where
  pub names : Each IsTerm node.names
  pub named : 0 < length node.names
  pub size : IsTrue (is_size node.bytes)
  pub value : IsKnown node.value
  pub single : node.under ≡ none

-- a list has one number at least
abbrev pub HasNumber : Values → Type 0
HasNumber (Range low high) = ⊤
HasNumber (OneOf numbers) = 0 < length numbers

-- what stands in a line of a site
abbrev pub IsSiteLine : SiteLine → Type 0
IsSiteLine (in_site.Pair a b) = IsRegion a × IsRegion b
IsSiteLine (in_site.Fork a b) = IsRegion a × IsRegion b
IsSiteLine (in_site.Keep r) = IsRegion r

-- what stands in a line of a vertex
abbrev pub IsVertexLine : VertexLine → Type 0
IsVertexLine (in_vertex.Registers given) = Each IsGiven given × (0 < length given)
IsVertexLine (in_vertex.Flags f) = IsFact f
IsVertexLine (in_vertex.Bound b) = IsBound b × HasNumber b.set
IsVertexLine (in_vertex.Node level node) = IsNumber level × IsNode node
IsVertexLine (in_vertex.Edges out) = Each IsEdge out × (0 < length out)

-- what stands in a line of each kind
abbrev pub IsLine : Line → Type 0
IsLine (line.Function entry below above) = IsNumber entry × (IsNumber below × IsNumber above)
IsLine (line.Refused entry) = IsNumber entry
IsLine (line.Site addr kind) = IsNumber addr × IsKind kind
IsLine (line.Vertex n) = IsNumber n
IsLine (line.InSite l) = IsSiteLine l
IsLine (line.InVertex l) = IsVertexLine l
IsLine line.End = ⊤

-- the line of a pair of regions that are taken as separate
abbrev pub pair_line : Region × Region → Line
pair_line pair = line.InSite (in_site.Pair pair.0 pair.1)

-- the line of a region that a callee leaves as it was
abbrev pub keep_line : Region → Line
keep_line r = line.InSite (in_site.Keep r)

-- the line of a bound
abbrev pub bound_line : Bound → Line
bound_line b = line.InVertex (in_vertex.Bound b)
