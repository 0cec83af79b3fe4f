-- Which graphs are well formed: their orders, numbers, ranges and limits. The lines of the text of such a graph are
-- shorter than a line may be, since terms have few nodes; so the limit on a line needs no fact of its own.
use Rattle.std.specs.Prelude.{◌≡◌, ℕ, ◌<◌, ◌≤◌, ◌^◌, ◌==◌, ◌&&◌, ◌||◌, Bool, IsTrue, nat_le, if◌then◌else◌, is_none, List, [], length, map, Some, None, IfSome, ⊤}
use Rattle.std.specs.declared.option.Option.{Option}
use Rattle.sym_terms.specs.Plain.{PlainSum}
use Rattle.sym_terms.specs.Normal.{IsTerm}
use Rattle.mem_forest.specs.Plain.{PlainForest, none, cell}
use Rattle.mem_forest.specs.Shape.{is_size, IsForest}
use Rattle.memory_regions.specs.declared.region.Region.{Region}
use Rattle.predicates.specs.declared.bound.FlagFact.{FlagFact}
use Rattle.predicates.specs.declared.bound.Values.{Values}
use Rattle.predicates.specs.declared.bound.Values.TheVariants.{Range, OneOf}
use Rattle.predicates.specs.declared.bound.Bound.{Bound}
use Rattle.predicates.specs.declared.site.Kind.{Kind}
use Rattle.predicates.specs.declared.site.Kind.TheVariants.{Step, Call, Outside, Return, End}
use Rattle.predicates.specs.Kinds.{has_edges, may_fork, may_keep}
use Rattle.predicates.specs.Bounds.{in_order}
use Rattle.predicates.specs.Predicate.{Predicate, IsPredicate}
use Rattle.graph_data.specs.declared.graph.Vertex.{Vertex}
use Rattle.graph_data.specs.declared.graph.Site.{Site}
use Rattle.graph_data.specs.declared.graph.Refused.{Refused}
use Rattle.graph_data.specs.declared.graph.Function.{Function}
use Rattle.graph_data.specs.declared.graph.Graph.{Graph}
use Rattle.graph_data.specs.Limits.{most_pairs, most_keeps, most_vertices, most_edges, most_frame}
use Rattle.graph_data.specs.Parts.{Each, Ascends}
use Rattle.graph_data.specs.Order.{region_before, pair_before}

-- a number of 64 bits
abbrev pub IsNumber : ℕ → Type 0
IsNumber n = n < 2 ^ 64

-- a term where one is known
abbrev pub IsKnown : Option PlainSum → Type 0
IsKnown value = IfSome value IsTerm

-- a region has a term as its address and a written size
pub record IsRegion (r : Region) : Type 0 where
  pub at : IsTerm r.at
  pub size : IsTrue (is_size r.bytes)

-- two regions
abbrev pub ArePair : Region × Region → Type 0
ArePair p = IsRegion p.0 × IsRegion p.1

-- the terms of a forest are terms
abbrev pub HasTerms : PlainForest → Type 0
HasTerms none = ⊤
HasTerms (cell ns b v under rest) = Each IsTerm ns × (IsKnown v × (HasTerms under × HasTerms rest))

-- what a flag fact compares are terms
abbrev pub IsFact : FlagFact → Type 0
IsFact f = IsTerm f.left × IsTerm f.right

-- numbers of 64 bits
abbrev pub AreNumbers : Values → Type 0
AreNumbers (Range low high) = IsNumber low × IsNumber high
AreNumbers (OneOf numbers) = Each IsNumber numbers

-- a term, and numbers of 64 bits
abbrev pub IsBound : Bound → Type 0
IsBound b = IsTerm b.key × AreNumbers b.set

-- 16 registers, bounds in form, a forest, and terms everywhere
pub record IsPred (p : Predicate) : Type 0 where
  pub formed : IsPredicate p
  pub regs : Each IsKnown p.regs
  pub flags : IfSome p.flags IsFact
  pub bounds : Each IsBound p.bounds
  pub forest : IsForest p.forest
  pub terms : HasTerms p.forest

-- an address of 64 bits and the number of a vertex there
abbrev pub IsEdge : ℕ × ℕ → Type 0
IsEdge edge = IsNumber edge.0 × (edge.1 < 2 ^ 32)

-- edges, and no more than there may be, at the kinds that have them, and none at the others
abbrev pub edges_fit : Kind → List (ℕ × ℕ) → Bool
edges_fit kind out = if has_edges kind then nat_le 1 (length out) && nat_le (length out) most_edges else length out == 0

-- a predicate of terms, and edges as its site's kind has them
pub record IsVertex (kind : Kind) (v : Vertex) : Type 0 where
  pub pred : IsPred v.pred
  pub edges : Each IsEdge v.out
  pub fits : IsTrue (edges_fit kind v.out)

-- a call's callee has an address
abbrev pub IsKind : Kind → Type 0
IsKind Step = ⊤
IsKind (Call entry) = IsNumber entry
IsKind Outside = ⊤
IsKind Return = ⊤
IsKind (End reason) = ⊤

-- no more pairs than there may be, ascending, at the kinds that have edges
abbrev pub seps_fit : Kind → List (Region × Region) → Bool
seps_fit kind seps = (has_edges kind || (length seps == 0)) && (nat_le (length seps) most_pairs && in_order pair_before seps)

-- a pair at a step at most
abbrev pub fork_fits : Kind → Option (Region × Region) → Bool
fork_fits kind fork = may_fork kind || is_none fork

-- no more regions than there may be, ascending, at calls of both kinds
abbrev pub keeps_fit : Kind → List Region → Bool
keeps_fit kind keeps = (may_keep kind || (length keeps == 0)) && (nat_le (length keeps) most_keeps && in_order region_before keeps)

-- vertices, and no more than there may be
abbrev pub vertices_fit : List Vertex → Bool
vertices_fit vertices = nat_le 1 (length vertices) && nat_le (length vertices) most_vertices

-- an instruction at an address, with assumptions and vertices as its kind has them
pub record IsSite (s : Site) : Type 0 where
  pub addr : IsNumber s.addr
  pub kind : IsKind s.kind
  pub seps : Each ArePair s.seps
  pub seps_fit : IsTrue (seps_fit s.kind s.seps)
  pub fork : IfSome s.fork ArePair
  pub fork_fits : IsTrue (fork_fits s.kind s.fork)
  pub keeps : Each IsRegion s.keeps
  pub keeps_fit : IsTrue (keeps_fit s.kind s.keeps)
  pub vertices : Each (IsVertex s.kind) s.vertices
  pub vertices_fit : IsTrue (vertices_fit s.vertices)

-- a frame within the limit, and sites, ascending by address, one at least
pub record HasSites (f : Function) : Type 0 where
  pub below : f.below ≤ most_frame
  pub above : f.above ≤ most_frame
  pub some : 0 < length f.sites
  pub sites : Each IsSite f.sites
  pub ascending : Ascends (map (λ s. s.addr) f.sites)

-- a function that is refused has no frame and no sites
pub record IsEmpty (f : Function) : Type 0 where
  pub below : f.below ≡ 0
  pub above : f.above ≡ 0
  pub sites : f.sites ≡ []

-- a function has sites, or is refused and empty
abbrev pub HasBody : Option Refused → Function → Type 0
HasBody None f = HasSites f
HasBody (Some why) f = IsEmpty f

-- an entry of 64 bits, and what it has
pub record IsFunction (f : Function) : Type 0 where
  pub entry : IsNumber f.entry
  pub body : HasBody f.refused f

-- functions ascend by entry
pub record IsWellFormed (g : Graph) : Type 0 where
  pub functions : Each IsFunction g.functions
  pub ascending : Ascends (map (λ f. f.entry) g.functions)
