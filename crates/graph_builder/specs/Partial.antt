-- What isn't whole yet, and what it is once it is closed.
use Rattle.std.specs.Prelude.{◌≡◌, ℕ, IsTrue, Option, Some, None, List, [], ◌∷◌, ◌++◌, length, slice_set, ⊤}
use Rattle.sym_terms.specs.Plain.{PlainSum}
use Rattle.mem_forest.specs.Plain.{PlainForest, none, PlainNode, cells}
use Rattle.mem_forest.specs.Shape.{IsForest}
use Rattle.predicates.specs.Bounds.{are_bounds}
use Rattle.predicates.specs.Entry.{entry_registers}
use Rattle.predicates.specs.Predicate.{Predicate}
use Rattle.graph_data.specs.declared.graph.Vertex.{Vertex}
use Rattle.graph_data.specs.declared.graph.Site.{Site}
use Rattle.graph_data.specs.declared.graph.Function.{Function}
use Rattle.graph_builder.specs.declared.builder.PartialVertex.{PartialVertex}
use Rattle.graph_builder.specs.declared.builder.Position.{Position}
use Rattle.graph_builder.specs.declared.builder.Position.TheVariants as position
use Rattle.graph_builder.specs.declared.builder.Builder.{Builder}

-- before the first line after the head
abbrev pub new_builder : Builder
new_builder = record { functions = []; position = position.Between }

-- the registers with those that are given; the others have their entry symbols
abbrev pub filled : List (ℕ × Option PlainSum) → List (Option PlainSum)
filled [] = entry_registers 16
filled (given ∷ more) = slice_set (filled more) given.0 given.1

-- all registers, which have their entry symbols where none was given
abbrev pub registers_of : Option (List (Option PlainSum)) → List (Option PlainSum)
registers_of None = entry_registers 16
registers_of (Some regs) = regs

-- nodes of which the last has this forest under it
abbrev pub with_children : List PlainNode → PlainForest → List PlainNode
with_children [] f = []
with_children (c ∷ []) f = record c { under = f } ∷ []
with_children (c ∷ d ∷ cs) f = c ∷ with_children (d ∷ cs) f

-- the forest of levels: each stands under the last node of the one above
abbrev pub forest_of_levels : List (List PlainNode) → PlainForest
forest_of_levels [] = none
forest_of_levels (level ∷ []) = cells level
forest_of_levels (level ∷ next ∷ more) =
    cells (with_children level (forest_of_levels (next ∷ more)))

-- a vertex of which only its own line was read
abbrev pub empty_vertex : PartialVertex
empty_vertex = record { regs = None; flags = None; bounds = []; levels = []; out = [] }

-- a vertex of which all lines were read
abbrev pub closed_vertex : PartialVertex → Vertex
closed_vertex v =
    let pred : Predicate = record {
      regs = registers_of v.regs;
      flags = v.flags;
      bounds = v.bounds;
      forest = forest_of_levels v.levels;
    } in
    record { pred = pred; out = v.out }

-- a site with a vertex more
abbrev pub with_vertex : Site → Vertex → Site
with_vertex s v = record s { vertices = s.vertices ++ v ∷ [] }

-- a function with a site more
abbrev pub with_site : Function → Site → Function
with_site f s = record f { sites = f.sites ++ s ∷ [] }

-- a site with its last vertex
abbrev pub closed_site : Site → PartialVertex → Site
closed_site s v = with_vertex s (closed_vertex v)

-- a function with its last site, and that with its last vertex
abbrev pub closed_function : Function → Site → PartialVertex → Function
closed_function f s v = with_site f (closed_site s v)

-- the function that is whole where the next one begins
abbrev pub closed_at : Position → List Function
closed_at position.Between = []
closed_at (position.Function f) = []
closed_at (position.Site f s) = []
closed_at (position.Vertex f s v) = closed_function f s v ∷ []
closed_at position.Ended = []

-- there are 16 registers, bounds in form, and nodes that are a forest
pub record IsClosable (v : PartialVertex) : Type 0 where
  pub sixteen : length (registers_of v.regs) ≡ 16
  pub bounded : IsTrue (are_bounds v.bounds)
  pub forest : IsForest (forest_of_levels v.levels)

-- a vertex that is being read can be closed
abbrev pub CanClose : Position → Type 0
CanClose position.Between = ⊤
CanClose (position.Function f) = ⊤
CanClose (position.Site f s) = ⊤
CanClose (position.Vertex f s v) = IsClosable v
CanClose position.Ended = ⊤
