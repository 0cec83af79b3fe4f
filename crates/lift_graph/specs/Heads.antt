-- Edges, ways along them, and loop heads.
use Rattle.std.specs.Prelude.{◌≡◌, ◌<◌, ◌≤◌, ◌⊎◌, ℕ, zero, suc, Bool, true, List, length}
use Rattle.std.specs.List.{All}
use Rattle.std.specs.Prelude.{slice_index_or}
use Rattle.std.specs.declared.vec.Vec.{Vec}
use Rattle.std.specs.declared.alloc.Global.{Global}
use Rattle.lift_graph.specs.Rows.{is_set, items_at}
use Rattle.lift_graph.specs.Graph.{address_at}
use Rattle.lift_graph.specs.declared.graph.Key.{Key}
use Rattle.lift_graph.specs.declared.graph.Place.{Place}

-- one of these edges comes from the vertex
abbrev pub IsSource : ℕ → List Place → Type 0
IsSource u places = (k : ℕ) × (k < length places) × ((d : Place) → (slice_index_or places k d).vertex ≡ u)

-- an edge leads from the first vertex to the second
abbrev pub Leads : List (Vec Place Global) → ℕ → ℕ → Type 0
Leads inward u v = IsSource u (items_at inward v)

-- a way of n edges
abbrev pub Way : List (Vec Place Global) → ℕ → ℕ → ℕ → Type 0
Way inward a b zero = a ≡ b
Way inward a b (suc n) = (c : ℕ) × Leads inward a c × Way inward c b n

-- a way of edges leads back to it
abbrev pub IsOnCycle : List (Vec Place Global) → ℕ → Type 0
IsOnCycle inward v = (n : ℕ) × Way inward v v (suc n)

-- several edges lead to it, and a way leads back to it
abbrev pub IsLoopHead : List (Vec Place Global) → ℕ → Type 0
IsLoopHead inward v = (2 ≤ length (items_at inward v)) × IsOnCycle inward v

-- a loop head, or a vertex at the address of vertex 0
abbrev pub IsKept : List Key → List (Vec Place Global) → ℕ → Type 0
IsKept keys inward v = (address_at keys v ≡ address_at keys 0) ⊎ IsLoopHead inward v

-- edges come from vertices
abbrev pub IsWithin : List (Vec Place Global) → ℕ → Type 0
IsWithin inward n = (v : ℕ) → v < n → All (λ p. p.vertex < n) (items_at inward v)

-- what the vertices and edges found so far have
pub record IsRooted (inward : List (Vec Place Global)) (keeps : List Bool) (n : ℕ) : Type 0 where
  -- the entry vertex and each loop head is kept
  pub entry : is_set keeps 0 ≡ true
  pub heads : (v : ℕ) → v < n → IsLoopHead inward v → is_set keeps v ≡ true
  pub within : IsWithin inward n
  -- each other vertex was found by an edge from an earlier one
  pub born : (v : ℕ) → 0 < v → v < n → (u : ℕ) × (u < v) × Leads inward u v
