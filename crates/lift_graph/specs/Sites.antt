-- The vertices at an address.
use Rattle.std.specs.Prelude.{◌≡◌, ◌<◌, ◌↔◌, ℕ, zero, suc, List, [], ◌++◌, map, length}
use Rattle.std.specs.List.{Contains}
use Rattle.std.specs.List.Sorted.{IsStrictlyIncreasing}
use Rattle.std.specs.Option.{option_to_list}
use Rattle.std.specs.BTreeMap.{BTreeMap, get}
use Rattle.lift_graph.specs.Graph.{key_cmp, address_at, tag_at}
use Rattle.lift_graph.specs.declared.graph.Key.{Key}
use Rattle.lift_graph.specs.declared.graph.Graph.{Graph}

-- those of the tags below a number
abbrev pub vertices_at : BTreeMap Key ℕ → ℕ → ℕ → List ℕ
vertices_at index address zero = []
vertices_at index address (suc tag) = vertices_at index address tag ++ option_to_list (get key_cmp index (record { address = address; tag = tag }))

-- those at the address of a vertex
abbrev pub site_at : Graph → ℕ → List ℕ
site_at g v = vertices_at g.index (address_at g.keys.items v) g.tags

-- the vertices at an address, each once, and their tags ascend
pub record IsSite (keys : List Key) (address : ℕ) (vertices : List ℕ) : Type 0 where
  pub exact : (v : ℕ) → Contains vertices v ↔ ((v < length keys) × (address_at keys v ≡ address))
  pub ascends : IsStrictlyIncreasing (map (tag_at keys) vertices)
