-- A store, and a load that names what it reads, keep what a forest says.
use Rattle.std.proofs.Common.{◌≡◌, ℕ, ◌<◌, ◌≤◌, ◌^◌, Bool, true, false, [], ◌∷◌, Option, Some, None, refl}
use Rattle.std.specs.Prelude.{IsTrue, if◌then◌else◌}
use Rattle.sym_terms.specs.Plain.{PlainSum}
use Rattle.sym_terms.specs.Value.{Valuation, value}
use Rattle.memory_regions.specs.declared.region.Relation.{Relation}
use Rattle.mem_forest.specs.Plain.{PlainForest, none, cell}
use Rattle.mem_forest.specs.Shape.{is_size}
use Rattle.mem_forest.specs.Search.{found, value_at}
use Rattle.mem_forest.specs.Levels.{related, is_separate, is_around, selected, insert, written, at_level, has_room}
use Rattle.mem_forest.specs.Store.{renewed, placed, store}
use Rattle.mem_forest.specs.Load.{is_clear, filled, named, named_unless, load}
use Rattle.x86_machine.specs.Memory.{loaded}
use Rattle.forest_meaning.specs.Separate.{past, Within}
use Rattle.forest_meaning.specs.Holds.{Means, Tells, EachNode, Holds}
use Rattle.forest_laws.proofs.AddressLemmas.{some_bytes, value_below}
use Rattle.forest_laws.proofs.RelationLemmas.{IsTrueRelation, around_tells}
use Rattle.forest_laws.proofs.LevelLemmas.{insert_each, selected_each, selected_holds, insert_holds}
use Rattle.forest_laws.proofs.DescentLemmas.{Touches, written_each, at_level_each, kept_here, written_holds, separate_apart, at_level_holds}

-- ---- store

module _ (u : Valuation) (P : ℕ → ℕ → Type 0) (rel : PlainSum → ℕ → Relation) (at : PlainSum) (a : ℕ) (v : Option PlainSum) where
  renewed_each : (room : Bool) (f : PlainForest) → P (value u at) a → EachNode u P f → EachNode u P (renewed rel at a v room f)
  renewed_each true f p e = insert_each u P (at ∷ []) a v none (selected is_separate rel f) p (selected_each u P is_separate rel f e)
  renewed_each false f p e = selected_each u P is_separate rel f e

  placed_each : (room : Bool) (f : PlainForest) → P (value u at) a → EachNode u P f → EachNode u P (placed rel at a v room f)
  placed_each room f p e = at_level_each u P false rel (renewed rel at a v room) (λ g i. renewed_each room g p i) f e

  -- the regions of a level, and the one that comes
  pub store_each : (f : PlainForest) → P (value u at) a → EachNode u P f → EachNode u P (store rel at a v f)
  store_each f p e = elim (found at a f) as (λ t. EachNode u P (if t then written false at a v f else placed rel at a v (has_room (placed rel at a v false f)) f)) [
    | true ↦ written_each u P false at a v f e
    | false ↦ placed_each (has_room (placed rel at a v false f)) f p e
  ]

module _ (m m' : ℕ → ℕ) (u : Valuation) (at : PlainSum) (a : ℕ) (v : Option PlainSum)
    (sized : IsTrue (is_size a)) (differs : (p : ℕ) → p < 2 ^ 64 → a ≤ past (value u at) p → m' p ≡ m p) (stored : Tells u v (loaded m' a (value u at)))
    (rel : PlainSum → ℕ → Relation) (is_true : IsTrueRelation u (value u at) a rel) where
  -- above a store no value is kept
  touches : Touches m m' u at a false
  touches = record { sized = sized; differs = differs; above = λ y b w h. tt; below = λ f h. tt }

  renewed_holds : (room : Bool) (f : PlainForest) → Holds m u f → Holds m' u (renewed rel at a v room f)
  renewed_holds true f h =
      let apart = separate_apart m m' u at a false touches rel is_true f h in
      insert_holds m' u (at ∷ []) a v none (selected is_separate rel f)
      (record { sized = sized; named = (refl, tt); valued = stored; inside = tt; separate = apart }, tt, kept_here m m' u at a false touches (selected is_separate rel f) (selected_holds m u is_separate rel f h) apart)
  renewed_holds false f h =
      kept_here m m' u at a false touches (selected is_separate rel f) (selected_holds m u is_separate rel f h) (separate_apart m m' u at a false touches rel is_true f h)

  placed_holds : (room : Bool) (f : PlainForest) → Holds m u f → Holds m' u (placed rel at a v room f)
  placed_holds room f h =
      at_level_holds m m' u at a false touches rel is_true (renewed rel at a v room) (renewed_holds room) (λ P g p e. renewed_each u P rel at a v room g p e) f h

  pub store_holds : (f : PlainForest) → Holds m u f → Holds m' u (store rel at a v f)
  store_holds f h = (elim (found at a f) as (λ t. found at a f ≡ t → Holds m' u (if t then written false at a v f else placed rel at a v (has_room (placed rel at a v false f)) f)) [
    | true ↦ λ e. written_holds m m' u at a false touches v stored f h e
    | false ↦ λ e. placed_holds (has_room (placed rel at a v false f)) f h
  ]) refl

-- ---- load

module _ (u : Valuation) (P : ℕ → ℕ → Type 0) (rel : PlainSum → ℕ → Relation) (at : PlainSum) (a : ℕ) where
  filled_each : (v : PlainSum) (f : PlainForest) → P (value u at) a → EachNode u P f → EachNode u P (filled rel at a v f)
  filled_each v f p e = elim (is_clear rel f) as (λ t. EachNode u P (if t then insert (at ∷ []) a (Some v) (selected is_around rel f) (selected is_separate rel f) else f)) [
    | true ↦ insert_each u P (at ∷ []) a (Some v) (selected is_around rel f) (selected is_separate rel f) p (selected_each u P is_separate rel f e)
    | false ↦ e
  ]

  named_each : (v : PlainSum) (f : PlainForest) → P (value u at) a → EachNode u P f → EachNode u P (named rel at a v f)
  named_each v f p e = elim (found at a f) as (λ t. EachNode u P (if t then written true at a (Some v) f else if has_room f then at_level true rel (filled rel at a v) f else f)) [
    | true ↦ written_each u P true at a (Some v) f e
    | false ↦ elim (has_room f) as (λ t. EachNode u P (if t then at_level true rel (filled rel at a v) f else f)) [
      | true ↦ at_level_each u P true rel (filled rel at a v) (λ g i. filled_each v g p i) f e
      | false ↦ e
    ]
  ]

  named_unless_each : (o name : Option PlainSum) (f : PlainForest) → P (value u at) a → EachNode u P f → EachNode u P (named_unless o rel at a name f)
  named_unless_each (Some v) name f p e = e
  named_unless_each None None f p e = e
  named_unless_each None (Some v) f p e = named_each v f p e

  -- the regions of a level, and the one that comes
  pub load_each : (name : Option PlainSum) (f : PlainForest) → P (value u at) a → EachNode u P f → EachNode u P (load rel at a name f)
  load_each name f p e = named_unless_each (value_at at a f) name f p e

module _ (m : ℕ → ℕ) (u : Valuation) (at : PlainSum) (a : ℕ) (sized : IsTrue (is_size a)) (rel : PlainSum → ℕ → Relation) (is_true : IsTrueRelation u (value u at) a rel) where
  -- a load changes no byte, and keeps the values above
  reads : Touches m m u at a true
  reads = record { sized = sized; differs = λ p h g. refl; above = λ y b w h. h; below = λ f h. h }

  -- the nodes of a level that lie in the region
  within_ones : (f : PlainForest) → Holds m u f → EachNode u (λ y c. Within y c (value u at) a) (selected is_around rel f)
  within_ones none h = tt
  within_ones (cell ns b v under rest) h =
      (elim (is_around (related rel ns b)) as (λ o. is_around (related rel ns b) ≡ o → EachNode u (λ y c. Within y c (value u at) a) (if o then cell ns b v under (selected is_around rel rest) else selected is_around rel rest)) [
        | true ↦ λ e. (around_tells u (value u at) a (value_below u at) rel is_true ns b (some_bytes b h.0.sized) h.0.named e, within_ones rest h.2)
        | false ↦ λ e. within_ones rest h.2
      ]) refl

  module _ (v : PlainSum) (means : Means u v (loaded m a (value u at))) where
    filled_holds : (f : PlainForest) → Holds m u f → Holds m u (filled rel at a v f)
    filled_holds f h = elim (is_clear rel f) as (λ t. Holds m u (if t then insert (at ∷ []) a (Some v) (selected is_around rel f) (selected is_separate rel f) else f)) [
      | true ↦
          insert_holds m u (at ∷ []) a (Some v) (selected is_around rel f) (selected is_separate rel f) (
            record { sized = sized; named = (refl, tt); valued = means; inside = within_ones f h; separate = separate_apart m m u at a true reads rel is_true f h },
            selected_holds m u is_around rel f h,
            selected_holds m u is_separate rel f h,
          )
      | false ↦ h
    ]

    named_holds : (f : PlainForest) → Holds m u f → Holds m u (named rel at a v f)
    named_holds f h = (elim (found at a f) as (λ t. found at a f ≡ t → Holds m u (if t then written true at a (Some v) f else if has_room f then at_level true rel (filled rel at a v) f else f)) [
      | true ↦ λ e. written_holds m m u at a true reads (Some v) means f h e
      | false ↦ λ e. elim (has_room f) as (λ t. Holds m u (if t then at_level true rel (filled rel at a v) f else f)) [
        | true ↦ at_level_holds m m u at a true reads rel is_true (filled rel at a v) filled_holds (λ P g p e. filled_each u P rel at a v g p e) f h
        | false ↦ h
      ]
    ]) refl

  named_unless_holds : (o name : Option PlainSum) → Tells u name (loaded m a (value u at)) → (f : PlainForest) → Holds m u f → Holds m u (named_unless o rel at a name f)
  named_unless_holds (Some v) name n f h = h
  named_unless_holds None None n f h = h
  named_unless_holds None (Some v) n f h = named_holds v n f h

  pub load_holds : (name : Option PlainSum) → Tells u name (loaded m a (value u at)) → (f : PlainForest) → Holds m u f → Holds m u (load rel at a name f)
  load_holds name n f h = named_unless_holds (value_at at a f) name n f h
