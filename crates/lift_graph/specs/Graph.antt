-- What holds of the vertices and edges that were found so far.
use Rattle.std.specs.Prelude.{◌≡◌, ◌<◌, ◌≤◌, ◌↔◌, ℕ, zero, suc, List, [], ◌∷◌, Some, length, slice_get}
use Rattle.std.specs.List.{All, Contains}
use Rattle.std.specs.Ordering.{nat_cmp, ordering_then}
use Rattle.std.specs.declared.cmp.Ordering.{Ordering}
use Rattle.std.specs.BTreeMap.{BTreeMap, get}
use Rattle.lift_graph.specs.Rows.{is_set, items_at}
use Rattle.lift_graph.specs.declared.graph.Key.{Key}
use Rattle.lift_graph.specs.declared.graph.Graph.{Graph}

-- keys are in the order of their addresses, and then of their tags
abbrev pub key_cmp : Key → Key → Ordering
key_cmp x y = ordering_then (nat_cmp x.address y.address) (nat_cmp x.tag y.tag)

-- the address of a vertex; 0 past the end
abbrev pub address_at : List Key → ℕ → ℕ
address_at [] v = 0
address_at (k ∷ keys) zero = k.address
address_at (k ∷ keys) (suc v) = address_at keys v

-- the tag of a vertex; 0 past the end
abbrev pub tag_at : List Key → ℕ → ℕ
tag_at [] v = 0
tag_at (k ∷ keys) zero = k.tag
tag_at (k ∷ keys) (suc v) = tag_at keys v

-- the index finds the vertex of each key, and no other
abbrev pub IsIndex : BTreeMap Key ℕ → List Key → Type 0
IsIndex index keys = (key : Key) (v : ℕ) → (get key_cmp index key ≡ Some v) ↔ (slice_get keys v ≡ Some key)

-- each list has an entry a vertex
pub record IsSquare (g : Graph) : Type 0 where
  pub targets : length g.targets.items ≡ length g.keys.items
  pub inward : length g.inward.items ≡ length g.keys.items
  pub keeps : length g.keeps.items ≡ length g.keys.items

-- the index finds the vertices, and the tags are below their bound
pub record IsListed (g : Graph) : Type 0 where
  pub square : IsSquare g
  pub index : IsIndex g.index g.keys.items
  pub tags : All (λ k. k.tag < g.tags) g.keys.items

-- the entry vertex has tag 0, edges lead to other vertices, and each of those was found by an edge from an earlier one
pub record IsGraph (g : Graph) : Type 0 where
  pub listed : IsListed g
  pub entry : (address : ℕ) × (slice_get g.keys.items 0 ≡ Some (record { address = address; tag = 0 }))
  pub within : (u : ℕ) → All (λ v. (0 < v) × (v < length g.keys.items)) (items_at g.targets.items u)
  pub born : (v : ℕ) → 0 < v → v < length g.keys.items → (u : ℕ) × (u < v) × Contains (items_at g.targets.items u) v

-- vertices without edges may have come at the end
pub record IsExtended (old new : Graph) : Type 0 where
  pub more : length old.keys.items ≤ length new.keys.items
  pub keys : (v : ℕ) (k : Key) → slice_get old.keys.items v ≡ Some k → slice_get new.keys.items v ≡ Some k
  pub targets : (u : ℕ) → items_at new.targets.items u ≡ items_at old.targets.items u
  pub inward : (u : ℕ) → items_at new.inward.items u ≡ items_at old.inward.items u
  pub keeps : (u : ℕ) → is_set new.keeps.items u ≡ is_set old.keeps.items u

-- the vertices and edges stayed
pub record HasSameEdges (old new : Graph) : Type 0 where
  pub keys : new.keys ≡ old.keys
  pub index : new.index ≡ old.index
  pub tags : new.tags ≡ old.tags
  pub targets : new.targets ≡ old.targets
