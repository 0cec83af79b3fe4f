-- Each line of a well-formed graph is a line, within the limits of its own parts.
use Rattle.std.proofs.Common.{IsTrue, ◌≡◌, ℕ, suc, ◌+◌, ◌^◌, ◌<◌, ◌≤◌, true, ◌&&◌, List, [], ◌∷◌, ◌++◌, length, map, Option, Some, None, refl, arith}
use Rattle.std.specs.Prelude.{nat_le, IfSome}
use Rattle.std.specs.List.{flat_map, enumerate_from}
use Rattle.std.proofs.lemmas.Bool.{and_parts, leb-true}
use Rattle.sym_terms.specs.Plain.{PlainSum}
use Rattle.mem_forest.specs.Plain.{PlainForest, none, cell, count}
use Rattle.mem_forest.specs.Shape.{shaped}
use Rattle.memory_regions.specs.declared.region.Region.{Region}
use Rattle.predicates.specs.declared.bound.FlagFact.{FlagFact}
use Rattle.predicates.specs.declared.bound.Values.{Values}
use Rattle.predicates.specs.declared.bound.Values.TheVariants.{Range, OneOf}
use Rattle.predicates.specs.declared.bound.Bound.{Bound}
use Rattle.predicates.specs.declared.site.Kind.{Kind}
use Rattle.predicates.specs.Bounds.{keys_ascend, are_values, are_formed, numbers_ascend}
use Rattle.predicates.specs.Predicate.{Predicate}
use Rattle.graph_data.specs.declared.graph.Vertex.{Vertex}
use Rattle.graph_data.specs.declared.graph.Site.{Site}
use Rattle.graph_data.specs.declared.graph.Refused.{Refused}
use Rattle.graph_data.specs.declared.graph.Function.{Function}
use Rattle.graph_data.specs.declared.graph.Graph.{Graph}
use Rattle.graph_data.specs.Parts.{Each}
use Rattle.graph_data.specs.Order.{has_edges}
use Rattle.graph_data.specs.WellFormed.{IsNumber, ArePair, IsRegion, HasTerms, IsFact, IsBound, IsPred, IsEdge, edges_fit, IsVertex, IsSite, HasBody, IsFunction, IsWellFormed}
use Rattle.graph_lines.specs.declared.line.Line.{Line}
use Rattle.graph_lines.specs.declared.line.Line.TheVariants as line
use Rattle.graph_lines.specs.declared.line.SiteLine.TheVariants as in_site
use Rattle.graph_lines.specs.declared.line.VertexLine.TheVariants as in_vertex
use Rattle.graph_lines.specs.Line.{IsGiven, HasNumber, keep_line, bound_line, IsLine}
use Rattle.graph_builder.specs.Lines.{given_of, registers_lines, flags_lines, node_lines, edges_lines, pred_lines, vertex_lines, fork_lines, site_lines, body_lines, function_lines, graph_lines}
use Rattle.graph_builder.proofs.BuildsLists.{each_append, each_map, each_flat, each_both, each_all}
use Rattle.graph_builder.proofs.BuildsRegisters.{given_each, given_few}
use Rattle.graph_lines.specs.LineLimits.{is_within_number_limit, IsWithinLineLimits}
use Rattle.graph_builder.proofs.BuildsNodes.{named}
use Rattle.graph_builder.proofs.BuildsVertex.{edges_by}

-- a line with its parts in their ranges and limits
abbrev pub IsWritten : Line → Type 0
IsWritten l = IsLine l × IsWithinLineLimits l

-- ---- a predicate

registers_written : (given : List (ℕ × Option PlainSum)) → Each IsGiven given → length given ≤ 16 → Each IsWritten (registers_lines given)
registers_written [] each few = tt
registers_written (given ∷ more) each few = (((each, omega arith), few), tt)

flags_written : (flags : Option FlagFact) → IfSome flags IsFact → Each IsWritten (flags_lines flags)
flags_written None h = tt
flags_written (Some fact) h = ((h, tt), tt)

values_written : (set : Values) → are_values set ≡ true → HasNumber set × IsTrue (is_within_number_limit set)
values_written (Range low high) e = (tt, refl)
values_written (OneOf numbers) e =
    let parts = and_parts (nat_le 1 (length numbers)) (nat_le (length numbers) 1024 && numbers_ascend numbers) e in
    let others = and_parts (nat_le (length numbers) 1024) (numbers_ascend numbers) parts.1 in
    (omega (arith, leb-true 1 (length numbers) parts.0), others.0)

bound_written : (b : Bound) → IsBound b × (are_values b.set ≡ true) → IsWritten (line.InVertex (in_vertex.Bound b))
bound_written b h = let values = values_written b.set h.1 in ((h.0, values.0), values.1)

nodes_written : (level : ℕ) (f : PlainForest) → shaped f ≡ true → HasTerms f → level + count f ≤ 64 → Each IsWritten (node_lines level f)
nodes_written level none e h few = tt
nodes_written level (cell ns b v under rest) e h few =
    let form = named ns b v under rest e in
    let some : 0 < length ns = omega (arith, leb-true 1 (length ns) form.some) in
    let deep : level < 2 ^ 64 = omega (arith, few) in (
      ((deep, record { names = h.0; named = some; size = form.size; value = h.1.0; single = refl }), (omega (arith, few), leb-true (length ns) 8 form.eight)),
      each_append IsWritten (node_lines (suc level) under) (node_lines level rest)
          (nodes_written (suc level) under form.below h.1.1.0 (omega (arith, few)))
          (nodes_written level rest form.beside h.1.1.1 (omega (arith, few))),
    )

pred_written : (p : Predicate) → IsPred p → Each IsWritten (pred_lines p)
pred_written p h =
    let bounded = and_parts (nat_le (length p.bounds) 16) (keys_ascend p.bounds && are_formed p.bounds) h.formed.bounded in
    let formed = and_parts (keys_ascend p.bounds) (are_formed p.bounds) bounded.1 in
    each_append IsWritten (registers_lines (given_of p.regs)) (flags_lines p.flags ++ (map bound_line p.bounds ++ node_lines 0 p.forest))
    (registers_written (given_of p.regs) (given_each p.regs h.formed.sixteen h.regs) (omega (arith, given_few p.regs, h.formed.sixteen)))
    (each_append IsWritten (flags_lines p.flags) (map bound_line p.bounds ++ node_lines 0 p.forest) (flags_written p.flags h.flags)
    (each_append IsWritten (map bound_line p.bounds) (node_lines 0 p.forest)
    (each_map (λ b. IsBound b × (are_values b.set ≡ true)) IsWritten bound_line bound_written p.bounds
    (each_both IsBound (λ b. are_values b.set ≡ true) p.bounds h.bounds (each_all (λ b. are_values b.set) p.bounds formed.1)))
    (nodes_written 0 p.forest h.forest.in_form h.terms (omega (arith, h.forest.few)))))

-- ---- a site

few_by : (kind : Kind) (edge : ℕ × ℕ) (more : List (ℕ × ℕ)) → edges_fit kind (edge ∷ more) ≡ true → length (edge ∷ more) ≤ 1024
few_by kind edge more e = leb-true (length (edge ∷ more)) 1024 (edges_by (has_edges kind) edge more e).1

edges_written : (kind : Kind) (out : List (ℕ × ℕ)) → Each IsEdge out → edges_fit kind out ≡ true → Each IsWritten (edges_lines out)
edges_written kind [] h e = tt
edges_written kind (edge ∷ more) h e = (((h, omega arith), few_by kind edge more e), tt)

vertices_written : (kind : Kind) (n : ℕ) (vs : List Vertex) → Each (IsVertex kind) vs → n + length vs ≤ 8 → Each IsWritten (flat_map vertex_lines (enumerate_from n vs))
vertices_written kind n [] h few = tt
vertices_written kind n (v ∷ vs) h few =
    let small : n < 2 ^ 64 = omega (arith, few) in (
      (small, tt),
      each_append IsWritten (pred_lines v.pred ++ edges_lines v.out) (flat_map vertex_lines (enumerate_from (n + 1) vs))
          (each_append IsWritten (pred_lines v.pred) (edges_lines v.out) (pred_written v.pred h.0.pred) (edges_written kind v.out h.0.edges h.0.fits))
          (vertices_written kind (n + 1) vs h.1 (omega (arith, few))),
    )

fork_written : (fork : Option (Region × Region)) → IfSome fork ArePair → Each IsWritten (fork_lines fork)
fork_written None h = tt
fork_written (Some pair) h = ((h, tt), tt)

site_written : (s : Site) → IsSite s → Each IsWritten (site_lines s)
site_written s h =
    let number = and_parts (nat_le 1 (length s.vertices)) (nat_le (length s.vertices) 8) h.vertices_fit in (
      ((h.addr, h.kind), tt),
      each_append IsWritten (map (λ pair. line.InSite (in_site.Pair pair.0 pair.1)) s.seps) (fork_lines s.fork ++ (map keep_line s.keeps ++ flat_map vertex_lines (enumerate_from 0 s.vertices)))
          (each_map ArePair IsWritten (λ pair. line.InSite (in_site.Pair pair.0 pair.1)) (λ pair h. (h, tt)) s.seps h.seps)
          (each_append IsWritten (fork_lines s.fork) (map keep_line s.keeps ++ flat_map vertex_lines (enumerate_from 0 s.vertices)) (fork_written s.fork h.fork)
          (each_append IsWritten (map keep_line s.keeps) (flat_map vertex_lines (enumerate_from 0 s.vertices))
          (each_map IsRegion IsWritten keep_line (λ a h. (h, tt)) s.keeps h.keeps)
          (vertices_written s.kind 0 s.vertices h.vertices (omega (arith, leb-true (length s.vertices) 8 number.1))))),
    )

-- ---- a graph

body_written : (f : Function) (why : Option Refused) → IsNumber f.entry → HasBody why f → Each IsWritten (body_lines why f)
body_written f None entry h =
    let below : f.below < 2 ^ 64 = omega (arith, h.below) in
    let above : f.above < 2 ^ 64 = omega (arith, h.above) in
    (((entry, (below, above)), tt), each_flat IsSite IsWritten site_lines site_written f.sites h.sites)
body_written f (Some why) entry h = ((entry, tt), tt)

-- each line of a well-formed graph
pub graph_written : (g : Graph) → IsWellFormed g → Each IsWritten (graph_lines g)
graph_written g h =
    each_append IsWritten (flat_map function_lines g.functions) (line.End ∷ [])
    (each_flat IsFunction IsWritten function_lines (λ f k. body_written f f.refused k.entry k.body) g.functions h.functions)
    ((tt, tt), tt)
