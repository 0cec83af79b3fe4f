-- The edges of a function, and ways along them.
use Rattle.std.specs.Prelude.{◌≡◌, ◌==◌, ◌≤◌, ◌+◌, ◌&&◌, ◌⊎◌, ℕ, zero, suc, List, [], ◌∷◌, length, flat_map, filter, Some}
use Rattle.std.specs.List.{Contains}
use Rattle.graph_data.specs.declared.graph.Vertex.{Vertex}
use Rattle.graph_data.specs.declared.graph.Site.{Site}
use Rattle.graph_data.specs.declared.graph.Function.{Function}
use Rattle.graph_runs.specs.World.{x86}
use Rattle.simulation.specs.Graph.{vertex_at}
use Rattle.elf_image.specs.declared.image.Image.{Image}

-- a vertex, by its address and its number there
abbrev pub Spot : Type 0
Spot = ℕ × ℕ

-- an edge with where it comes from: a site, a vertex there, and the number of the case
pub record Edge : Type 0 where
  pub site : Site
  pub vertex : Vertex
  pub case : ℕ
  pub target : Spot

-- the edges of a vertex, their cases counted from a number on
abbrev pub edges_from : Site → Vertex → ℕ → List Spot → List Edge
edges_from s v n [] = []
edges_from s v n (t ∷ ts) = record { site = s; vertex = v; case = n; target = t } ∷ edges_from s v (n + 1) ts

-- the edges of a function in written order
abbrev pub edges_of : Function → List Edge
edges_of f = flat_map (λ s. flat_map (λ v. edges_from s v 0 v.out) s.vertices) f.sites

-- those to a vertex
abbrev pub edges_to : Function → Spot → List Edge
edges_to f spot = filter (λ e. (e.target.0 == spot.0) && (e.target.1 == spot.1)) (edges_of f)

-- an edge leads from the first vertex to the second
abbrev pub Leads : Image → Function → Spot → Spot → Type 0
Leads image f a b = (v : Vertex) × (vertex_at (x86 image) f a.0 a.1 ≡ Some v) × Contains v.out b

-- a way of n edges
abbrev pub Way : Image → Function → Spot → Spot → ℕ → Type 0
Way image f a b zero = a ≡ b
Way image f a b (suc n) = (c : Spot) × Leads image f a c × Way image f c b n

-- several edges lead to it, and a way leads back to it; or it stands at the entry's address
abbrev pub IsLoopHead : Image → Function → Spot → Type 0
IsLoopHead image f spot =
    ((2 ≤ length (edges_to f spot)) × ((n : ℕ) × Way image f spot spot (suc n))) ⊎ (spot.0 ≡ f.entry)
