-- A search along edges, from their targets to their sources.
use Rattle.std.specs.Prelude.{◌≡◌, ◌⊎◌, ◌+◌, ℕ, suc, Bool, true, false, List, [], ◌∷◌}
use Rattle.std.specs.List.{All}
use Rattle.std.specs.declared.vec.Vec.{Vec}
use Rattle.std.specs.declared.alloc.Global.{Global}
use Rattle.lift_graph.specs.Rows.{is_set, items_at}
use Rattle.lift_graph.specs.Heads.{IsSource, Way}
use Rattle.lift_graph.specs.declared.graph.Place.{Place}

-- it stands in the list
abbrev pub IsMember : {A : Type 0} → A → List A → Type 0
IsMember x [] = ⊥
IsMember x (y ∷ ys) = (y ≡ x) ⊎ IsMember x ys

-- the number of marks that aren't set
abbrev pub unset : List Bool → ℕ
unset [] = 0
unset (true ∷ bs) = unset bs
unset (false ∷ bs) = unset bs + 1

-- a vertex was marked, and noted where it wasn't marked before
pub record IsNotedOne (v : ℕ) (before : List Bool) (waiting : List ℕ) (after : List Bool) (noted : List ℕ) : Type 0 where
  pub grows : (u : ℕ) → is_set before u ≡ true → is_set after u ≡ true
  pub here : is_set after v ≡ true
  pub only : (u : ℕ) → is_set after u ≡ true → (is_set before u ≡ true) ⊎ (IsMember u noted × (u ≡ v))
  pub stays : (u : ℕ) → IsMember u waiting → IsMember u noted
  pub marked : (u : ℕ) → IsMember u noted → IsMember u waiting ⊎ (is_set after u ≡ true)

-- the sources of edges were marked, and those that weren't marked before were noted
pub record IsNoted (places : List Place) (before : List Bool) (waiting : List ℕ) (after : List Bool) (noted : List ℕ) : Type 0 where
  pub grows : (u : ℕ) → is_set before u ≡ true → is_set after u ≡ true
  pub all : All (λ p. is_set after p.vertex ≡ true) places
  pub only : (u : ℕ) → is_set after u ≡ true → (is_set before u ≡ true) ⊎ (IsMember u noted × IsSource u places)
  pub stays : (u : ℕ) → IsMember u waiting → IsMember u noted
  pub marked : (u : ℕ) → IsMember u noted → IsMember u waiting ⊎ (is_set after u ≡ true)

-- what is marked leads to the vertex, and what is marked and doesn't wait has its sources marked
pub record IsSearch (inward : List (Vec Place Global)) (v : ℕ) (marks : List Bool) (waiting : List ℕ) : Type 0 where
  pub sound : (u : ℕ) → is_set marks u ≡ true → (k : ℕ) × Way inward u v (suc k)
  pub first : All (λ p. is_set marks p.vertex ≡ true) (items_at inward v)
  pub closed : (u : ℕ) → is_set marks u ≡ true → IsMember u waiting ⊎ All (λ p. is_set marks p.vertex ≡ true) (items_at inward u)
  pub marked : (u : ℕ) → IsMember u waiting → is_set marks u ≡ true
