-- The edges to each vertex, in written order: by the address and the tag of their source, and then by their case.
use Rattle.std.specs.Prelude.{◌≡◌, ◌<◌, ◌+◌, ◌==◌, ℕ, cond, List, [], ◌∷◌, length, slice_get, IsPermutation, IsSortedByKey}
use Rattle.std.specs.List.{Contains, flat_map, range_with_len}
use Rattle.std.specs.Option.{option_cmp}
use Rattle.std.specs.declared.vec.Vec.{Vec}
use Rattle.std.specs.declared.alloc.Global.{Global}
use Rattle.lift_graph.specs.Rows.{items_at}
use Rattle.lift_graph.specs.Graph.{key_cmp}
use Rattle.lift_graph.specs.declared.graph.Key.{Key}
use Rattle.lift_graph.specs.declared.graph.Place.{Place}
use Rattle.lift_graph.specs.declared.graph.Graph.{Graph}

-- the edges from a vertex to another, by their cases from a number on
abbrev pub places_to : ℕ → ℕ → List ℕ → ℕ → List Place
places_to u k [] v = []
places_to u k (t ∷ ts) v =
    cond (t == v) (record { vertex = u; case = k } ∷ places_to u (k + 1) ts v) (places_to u (k + 1) ts v)

-- the edges to a vertex from the vertices of a list, in its order
abbrev pub places_from : List (Vec ℕ Global) → List ℕ → ℕ → List Place
places_from targets order v = flat_map (λ u. places_to u 0 (items_at targets u) v) order

-- each vertex once, in the order of the addresses, and then of the tags
pub record IsWritten (keys : List Key) (order : List ℕ) : Type 0 where
  pub once : IsPermutation (range_with_len 0 (length keys)) order
  pub ascends : IsSortedByKey (slice_get keys) (option_cmp key_cmp) order

-- the edges to each vertex are those from the vertices of the list, in its order, which is the written one
pub record IsWoven (g : Graph) (order : List ℕ) : Type 0 where
  pub written : IsWritten g.keys.items order
  pub all : (v : ℕ) → v < length g.keys.items → Contains order v
  pub inward : (v : ℕ) → v < length g.keys.items → items_at g.inward.items v ≡ places_from g.targets.items order v
