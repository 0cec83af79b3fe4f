-- A vertex is the merge of the cases that come to it.
use Rattle.std.specs.Prelude.{◌≡◌, ◌≢◌, List, [], ◌∷◌, Option, Some, None, slice_get}
use Rattle.std.specs.List.{filter_map}
use Rattle.std.specs.Option.{option_and_then, option_map}
use Rattle.elf_image.specs.declared.image.Image.{Image}
use Rattle.predicates.specs.Predicate.{Predicate}
use Rattle.predicates.specs.Weaken.{weaken}
use Rattle.graph_data.specs.declared.graph.Vertex.{Vertex}
use Rattle.graph_data.specs.declared.graph.Function.{Function}
use Rattle.graph_runs.specs.World.{x86}
use Rattle.graph_rules.specs.Rules.{view_of as step_view}
use Rattle.simulation.specs.Graph.{vertex_at, view_of}
use Rattle.instr_at.specs.At.{instr_at}
use Rattle.step_rules.specs.Cases.{cases}
use Rattle.lifted_parts.specs.Edges.{Edge, Spot, edges_to, IsLoopHead}

-- what holds after the case of an edge
abbrev pub case_of : Image → Function → Edge → Option Predicate
case_of image f e =
    option_map (λ c. c.pred)
    (option_and_then (λ cs. slice_get cs e.case)
    (option_and_then (λ i. cases (step_view image (view_of (x86 image) f e.site)) i e.vertex.pred) (instr_at image e.site.addr)))

-- the cases that come to a vertex, in written order
abbrev pub incoming : Image → Function → Spot → List Predicate
incoming image f spot = filter_map (case_of image f) (edges_to f spot)

-- the first, weakened by the others in turn
abbrev pub merged_onto : Predicate → List Predicate → Predicate
merged_onto p [] = p
merged_onto p (c ∷ cs) = merged_onto (weaken p c) cs

-- the merge of predicates; none of none
abbrev pub merge_of : List Predicate → Option Predicate
merge_of [] = None
merge_of (c ∷ cs) = Some (merged_onto c cs)

-- each vertex that is neither the entry vertex nor a loop head is the merge of its cases
abbrev pub IsExact : Image → Function → Type 0
IsExact image f =
    (spot : Spot) (v : Vertex) → vertex_at (x86 image) f spot.0 spot.1 ≡ Some v → spot ≢ (f.entry, 0) →
    (IsLoopHead image f spot → ⊥) → merge_of (incoming image f spot) ≡ Some v.pred
