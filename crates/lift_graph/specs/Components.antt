-- What shows which vertices lie on a cycle: the parts of a graph that lead back to themselves.
use Rattle.std.specs.Prelude.{◌≡◌, ◌<◌, ◌≤◌, ◌⊎◌, ℕ, List, slice_index}
use Rattle.std.specs.List.{All}
use Rattle.std.specs.declared.vec.Vec.{Vec}
use Rattle.std.specs.declared.alloc.Global.{Global}
use Rattle.lift_graph.specs.Rows.{items_at}
use Rattle.lift_graph.specs.Heads.{Leads}
use Rattle.lift_graph.specs.declared.graph.Place.{Place}
use Rattle.lift_graph.specs.declared.components.Components.{Components}

-- the number of a vertex's component
abbrev pub part_of : Components → ℕ → ℕ
part_of c v = slice_index c.part.items v

-- the root of a vertex's component
abbrev pub root_of : Components → ℕ → ℕ
root_of c v = slice_index c.root.items (part_of c v)

-- it is its component's root, or an edge leads to a vertex of its component that is nearer to the root
abbrev pub LeadsUp : List (Vec Place Global) → ℕ → Components → ℕ → Type 0
LeadsUp inward n c v =
    (v ≡ root_of c v) ⊎ ((w : ℕ) × (w < n) × Leads inward v w × (part_of c w ≡ part_of c v) × (slice_index c.up.items w < slice_index c.up.items v))

-- it is its component's root, or an edge comes from a vertex of its component that is nearer to the root
abbrev pub ComesDown : List (Vec Place Global) → ℕ → Components → ℕ → Type 0
ComesDown inward n c v =
    (v ≡ root_of c v) ⊎ ((u : ℕ) × (u < n) × Leads inward u v × (part_of c u ≡ part_of c v) × (slice_index c.down.items u < slice_index c.down.items v))

-- edges lead to the same component or to one of a smaller number, and each vertex and its root lead to each other
pub record IsParted (inward : List (Vec Place Global)) (n : ℕ) (c : Components) : Type 0 where
  pub falls : (v : ℕ) → v < n → All (λ p. part_of c v ≤ part_of c p.vertex) (items_at inward v)
  pub up : (v : ℕ) → v < n → LeadsUp inward n c v
  pub down : (v : ℕ) → v < n → ComesDown inward n c v
