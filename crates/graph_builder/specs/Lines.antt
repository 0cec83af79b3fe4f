-- The lines of a graph, in order.
use Rattle.std.specs.Prelude.{ℕ, suc, not, Option, Some, None, List, [], ◌∷◌, ◌++◌, map, filter}
use Rattle.std.specs.List.{flat_map, enumerate_from}
use Rattle.sym_terms.specs.Plain.{PlainSum}
use Rattle.mem_forest.specs.Plain.{PlainForest, none, cell}
use Rattle.memory_regions.specs.declared.region.Region.{Region}
use Rattle.predicates.specs.declared.bound.FlagFact.{FlagFact}
use Rattle.predicates.specs.Predicate.{Predicate}
use Rattle.graph_data.specs.declared.graph.Vertex.{Vertex}
use Rattle.graph_data.specs.declared.graph.Site.{Site}
use Rattle.graph_data.specs.declared.graph.Refused.{Refused}
use Rattle.graph_data.specs.declared.graph.Function.{Function}
use Rattle.graph_data.specs.declared.graph.Graph.{Graph}
use Rattle.graph_lines.specs.declared.line.Line.{Line}
use Rattle.graph_lines.specs.declared.line.Line.TheVariants as line
use Rattle.graph_lines.specs.declared.line.SiteLine.TheVariants as in_site
use Rattle.graph_lines.specs.declared.line.VertexLine.TheVariants as in_vertex
use Rattle.graph_lines.specs.Line.{is_entry_value, pair_line, keep_line, bound_line}

-- the registers that aren't their own entry symbol, by number
abbrev pub given_of : List (Option PlainSum) → List (ℕ × Option PlainSum)
given_of regs = filter (λ given. not (is_entry_value given)) (enumerate_from 0 regs)

-- the line of the registers that are given, none where none is
abbrev pub registers_lines : List (ℕ × Option PlainSum) → List Line
registers_lines [] = []
registers_lines (given ∷ more) = line.InVertex (in_vertex.Registers (given ∷ more)) ∷ []

-- the line of a flag fact, if there is one
abbrev pub flags_lines : Option FlagFact → List Line
flags_lines None = []
flags_lines (Some fact) = line.InVertex (in_vertex.Flags fact) ∷ []

-- a node, those under it, and those beside it
abbrev pub node_lines : ℕ → PlainForest → List Line
node_lines level none = []
node_lines level (cell ns b v under rest) =
    line.InVertex (in_vertex.Node level (record { names = ns; bytes = b; value = v; under = none }))
    ∷ node_lines (suc level) under ++ node_lines level rest

-- the line of the edges, none where there are none
abbrev pub edges_lines : List (ℕ × ℕ) → List Line
edges_lines [] = []
edges_lines (edge ∷ more) = line.InVertex (in_vertex.Edges (edge ∷ more)) ∷ []

-- registers, the flag fact, bounds, nodes
abbrev pub pred_lines : Predicate → List Line
pred_lines p =
    registers_lines (given_of p.regs)
    ++ (flags_lines p.flags ++ (map bound_line p.bounds ++ node_lines 0 p.forest))

-- a vertex with its number
abbrev pub vertex_lines : ℕ × Vertex → List Line
vertex_lines v = line.Vertex v.0 ∷ pred_lines v.1.pred ++ edges_lines v.1.out

-- the line of the regions of which three cases are told apart, if there are any
abbrev pub fork_lines : Option (Region × Region) → List Line
fork_lines None = []
fork_lines (Some pair) = line.InSite (in_site.Fork pair.0 pair.1) ∷ []

-- a site, what is assumed at it, and its vertices
abbrev pub site_lines : Site → List Line
site_lines s =
    line.Site s.addr s.kind
    ∷ map pair_line s.seps
    ++ (fork_lines s.fork
    ++ (map keep_line s.keeps ++ flat_map vertex_lines (enumerate_from 0 s.vertices)))

-- a function and its sites; one that is refused is one line
abbrev pub body_lines : Option Refused → Function → List Line
body_lines None f = line.Function f.entry f.below f.above ∷ flat_map site_lines f.sites
body_lines (Some why) f = line.Refused f.entry ∷ []

-- the lines of a function
abbrev pub function_lines : Function → List Line
function_lines f = body_lines f.refused f

-- all lines after the head, the last one included
abbrev pub graph_lines : Graph → List Line
graph_lines g = flat_map function_lines g.functions ++ line.End ∷ []
