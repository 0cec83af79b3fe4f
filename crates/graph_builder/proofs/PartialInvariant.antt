-- What holds of what lines have built, as far as it goes.
use Rattle.std.specs.Prelude.{◌≡◌, ◌<◌, ◌≤◌, ◌||◌, IsTrue, Option, None, IfSome, List, [], ◌∷◌, length, map, ⊤}
use Rattle.sym_terms.specs.Plain.{PlainSum}
use Rattle.mem_forest.specs.Plain.{none, PlainNode}
use Rattle.mem_forest.specs.Shape.{IsForest}
use Rattle.predicates.specs.declared.site.Kind.{Kind}
use Rattle.predicates.specs.Bounds.{are_bounds}
use Rattle.graph_data.specs.declared.graph.Site.{Site}
use Rattle.graph_data.specs.declared.graph.Function.{Function}
use Rattle.graph_data.specs.Parts.{Each, Ascends}
use Rattle.graph_data.specs.Order.{has_edges}
use Rattle.graph_data.specs.WellFormed.{IsNumber, IsKnown, IsRegion, ArePair, HasTerms, IsFact, IsBound, IsEdge, IsKind, IsVertex, IsSite, IsFunction, seps_fit, fork_fits, keeps_fit}
use Rattle.graph_builder.specs.declared.builder.PartialVertex.{PartialVertex}
use Rattle.graph_builder.specs.declared.builder.Position.{Position}
use Rattle.graph_builder.specs.declared.builder.Position.TheVariants as position
use Rattle.graph_builder.specs.declared.builder.Builder.{Builder}
use Rattle.graph_builder.specs.Partial.{forest_of_levels}
use Rattle.graph_builder.specs.Follow.{is_empty}
use Rattle.graph_builder.specs.Order.{entry_extends, address_extends}

-- 16 registers, each with a term where one is known
abbrev pub AreRegisters : List (Option PlainSum) → Type 0
AreRegisters regs = (length regs ≡ 16) × Each IsKnown regs

-- a level has a node, and nothing is under its last one
abbrev pub IsLevel : List PlainNode → Type 0
IsLevel [] = ⊥
IsLevel (c ∷ []) = c.under ≡ none
IsLevel (c ∷ d ∷ cs) = IsLevel (d ∷ cs)

-- a vertex as far as it goes: the parts of a predicate, and edges only at the kinds that have them
pub record IsPartialVertex (kind : Kind) (v : PartialVertex) : Type 0 where
  pub regs : IfSome v.regs AreRegisters
  pub flags : IfSome v.flags IsFact
  pub formed : IsTrue (are_bounds v.bounds)
  pub bounds : Each IsBound v.bounds
  pub levels : Each IsLevel v.levels
  pub forest : IsForest (forest_of_levels v.levels)
  pub terms : HasTerms (forest_of_levels v.levels)
  pub edges : Each IsEdge v.out
  pub few : length v.out ≤ 1024
  pub kinds : IsTrue (has_edges kind || is_empty v.out)

-- a site as far as it goes, after those of its function, with room for one vertex more
pub record IsPartialSite (sites : List Site) (s : Site) : Type 0 where
  pub in_order : IsTrue (address_extends sites s.addr)
  pub addr : IsNumber s.addr
  pub kind : IsKind s.kind
  pub seps : Each ArePair s.seps
  pub seps_fit : IsTrue (seps_fit s.kind s.seps)
  pub fork : IfSome s.fork ArePair
  pub fork_fits : IsTrue (fork_fits s.kind s.fork)
  pub keeps : Each IsRegion s.keeps
  pub keeps_fit : IsTrue (keeps_fit s.kind s.keeps)
  pub vertices : Each (IsVertex s.kind) s.vertices
  pub few : length s.vertices < 8

-- a function as far as it goes, above those before it: it isn't refused, and its sites ascend
pub record IsPartialFunction (functions : List Function) (f : Function) : Type 0 where
  pub above_those : IsTrue (entry_extends functions f.entry)
  pub entry : IsNumber f.entry
  pub below : f.below ≤ 1048576
  pub above : f.above ≤ 1048576
  pub unrefused : f.refused ≡ None
  pub sites : Each IsSite f.sites
  pub ascending : Ascends (map (λ s. s.addr) f.sites)

-- what isn't whole yet is well formed as far as it goes
abbrev pub IsPartialAt : List Function → Position → Type 0
IsPartialAt functions position.Between = ⊤
IsPartialAt functions (position.Function f) = IsPartialFunction functions f × (f.sites ≡ [])
IsPartialAt functions (position.Site f s) =
    IsPartialFunction functions f × (IsPartialSite f.sites s × (s.vertices ≡ []))
IsPartialAt functions (position.Vertex f s v) =
    IsPartialFunction functions f × (IsPartialSite f.sites s × IsPartialVertex s.kind v)
IsPartialAt functions position.Ended = ⊤

-- the functions are those of a well-formed graph, and so is the rest as far as it goes
pub record IsPartial (b : Builder) : Type 0 where
  pub functions : Each IsFunction b.functions
  pub ascending : Ascends (map (λ f. f.entry) b.functions)
  pub position : IsPartialAt b.functions b.position
