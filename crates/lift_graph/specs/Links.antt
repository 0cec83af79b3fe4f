-- Where the cases of a vertex lead.
use Rattle.std.specs.Prelude.{◌≡◌, ◌≢◌, ◌<◌, ◌≤◌, ◌+◌, ◌==◌, ◌⊎◌, ℕ, Bool, cond, List, [], ◌∷◌, Some, map, length, slice_get}
use Rattle.std.specs.List.{Contains}
use Rattle.lift_graph.specs.Rows.{is_set, items_at}
use Rattle.lift_graph.specs.Graph.{IsExtended}
use Rattle.lift_graph.specs.declared.graph.Key.{Key}
use Rattle.lift_graph.specs.declared.graph.Graph.{Graph}

-- the tag of the vertex after a case: 2 and its number where the site forks; else the source's, and 1 after the entry vertex
abbrev pub tag_after : Bool → ℕ → ℕ → ℕ
tag_after forks tag case = cond forks (case + 2) (cond (tag == 0) 1 tag)

-- the keys to which cases lead, by their addresses, from a number on
abbrev pub keys_after : Bool → ℕ → ℕ → List ℕ → List Key
keys_after forks tag case [] = []
keys_after forks tag case (a ∷ addresses) =
    record { address = a; tag = tag_after forks tag case } ∷ keys_after forks tag (case + 1) addresses

-- the first list is the second, with some left out
abbrev pub IsSublist : {A : Type 0} → List A → List A → Type 0
IsSublist [] ys = Unit {0}
IsSublist (x ∷ xs) [] = ⊥
IsSublist (x ∷ xs) (y ∷ ys) = ((x ≡ y) × IsSublist xs ys) ⊎ IsSublist (x ∷ xs) ys

-- the row has the vertices of these keys, and each new vertex stands in it
pub record IsRow (old new : Graph) (keys : List Key) (row : List ℕ) : Type 0 where
  pub extended : IsExtended old new
  pub found : map (slice_get new.keys.items) row ≡ map Some keys
  pub fresh : (v : ℕ) → length old.keys.items ≤ v → v < length new.keys.items → Contains row v

-- the edges that a vertex has lead to some of these keys, in their order
abbrev pub KeepsEdges : Graph → ℕ → List Key → Type 0
KeepsEdges g vertex keys = IsSublist (map (slice_get g.keys.items) (items_at g.targets.items vertex)) (map Some keys)

-- a vertex has these targets, and the others have what they had; to the entry vertex leads what led to it
pub record HasRow (old new : Graph) (vertex : ℕ) (row : List ℕ) : Type 0 where
  pub keys : new.keys ≡ old.keys
  pub index : new.index ≡ old.index
  pub tags : new.tags ≡ old.tags
  pub keeps : new.keeps ≡ old.keeps
  pub entry : items_at new.inward.items 0 ≡ items_at old.inward.items 0
  pub here : items_at new.targets.items vertex ≡ row
  pub others : (u : ℕ) → u ≢ vertex → items_at new.targets.items u ≡ items_at old.targets.items u

-- the edges of a vertex lead to these keys, and its row alone changed; to the entry vertex leads what led to it
pub record IsLinked (old new : Graph) (vertex : ℕ) (keys : List Key) : Type 0 where
  pub kept : (v : ℕ) (k : Key) → slice_get old.keys.items v ≡ Some k → slice_get new.keys.items v ≡ Some k
  pub led : map (slice_get new.keys.items) (items_at new.targets.items vertex) ≡ map Some keys
  pub others : (u : ℕ) → u ≢ vertex → items_at new.targets.items u ≡ items_at old.targets.items u
  pub entry : items_at new.inward.items 0 ≡ items_at old.inward.items 0
  pub keeps : is_set new.keeps.items 0 ≡ is_set old.keeps.items 0
