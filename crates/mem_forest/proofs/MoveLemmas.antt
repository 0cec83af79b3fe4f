-- A level as a list, of which the nodes that lie in a region are moved under it.
use Rattle.std.proofs.Common.{◌≡◌, Bool, true, false, ◌&&◌, ◌||◌, List, [], ◌∷◌, refl, sym, ap, ap₂, ◌∙◌, ℕ}
use Rattle.std.specs.Prelude.{cond, not, filter, if◌then◌else◌, Option, Some}
use Rattle.std.specs.List.{list_all}
use Rattle.std.proofs.lemmas.Bool.{and_parts}
use Rattle.sym_terms.specs.Plain.{PlainSum}
use Rattle.memory_regions.specs.declared.region.Relation.{Relation}
use Rattle.memory_regions.specs.declared.region.Relation.TheVariants.{Alias, Separate, Inside, Around, Overlap, Unknown}
use Rattle.mem_forest.specs.Plain.{PlainForest, none, PlainNode, cells}
use Rattle.mem_forest.specs.Levels.{related, is_separate, is_around, selected, insert}
use Rattle.mem_forest.specs.Load.{is_clear, filled}
use Rattle.mem_forest.proofs.PlaceLemmas.{selected-cells}

module _ (rel : PlainSum → ℕ → Relation) where
  -- a clear level, as a list
  pub is_clear-cells : (xs : List PlainNode) → is_clear rel (cells xs) ≡ list_all (λ n. is_separate (related rel n.names n.bytes) || is_around (related rel n.names n.bytes)) xs
  is_clear-cells [] = refl
  is_clear-cells (x ∷ xs) = ap (λ t. (is_separate (related rel x.names x.bytes) || is_around (related rel x.names x.bytes)) && t) (is_clear-cells xs)

  -- of a node of a clear level, what isn't Around is Separate
  either_one : (r : Relation) → (is_separate r || is_around r) ≡ true → not (is_around r) ≡ is_separate r
  either_one Separate e = refl
  either_one Around e = refl
  either_one Alias e = absurd (cc)
  either_one Inside e = absurd (cc)
  either_one Overlap e = absurd (cc)
  either_one Unknown e = absurd (cc)

  outside_separate : (xs : List PlainNode) → list_all (λ n. is_separate (related rel n.names n.bytes) || is_around (related rel n.names n.bytes)) xs ≡ true
      → filter (λ n. not (is_around (related rel n.names n.bytes))) xs ≡ filter (λ n. is_separate (related rel n.names n.bytes)) xs
  outside_separate [] e = refl
  outside_separate (x ∷ xs) e =
      let p = and_parts (is_separate (related rel x.names x.bytes) || is_around (related rel x.names x.bytes)) (list_all (λ n. is_separate (related rel n.names n.bytes) || is_around (related rel n.names n.bytes)) xs) e in
      ap₂ (λ t ns. cond t (x ∷ ns) ns) (either_one (related rel x.names x.bytes) p.0) (outside_separate xs p.1)

  -- the region comes to a clear level over the nodes that were moved
  pub filled_clear : (at : PlainSum) (a : ℕ) (v : PlainSum) (xs inner left : List PlainNode) (leaf : PlainNode) (f : PlainForest)
      → list_all (λ n. is_separate (related rel n.names n.bytes) || is_around (related rel n.names n.bytes)) xs ≡ true
      → inner ≡ filter (λ n. is_around (related rel n.names n.bytes)) xs → left ≡ filter (λ n. not (is_around (related rel n.names n.bytes))) xs
      → leaf ≡ record { names = at ∷ []; bytes = a; value = Some v; under = cells inner } → f ≡ insert leaf.names leaf.bytes leaf.value leaf.under (cells left) → f ≡ filled rel at a v (cells xs)
  filled_clear at a v xs inner left leaf f clear is_inner is_left is_leaf is_f =
      is_f ∙ ap (λ n. insert n.names n.bytes n.value n.under (cells left)) is_leaf
      ∙ ap₂ (λ g h. insert (at ∷ []) a (Some v) g h) (ap cells is_inner ∙ sym (selected-cells is_around rel xs)) (ap cells (is_left ∙ outside_separate xs clear) ∙ sym (selected-cells is_separate rel xs))
      ∙ sym (ap (λ t. if t then insert (at ∷ []) a (Some v) (selected is_around rel (cells xs)) (selected is_separate rel (cells xs)) else cells xs) (is_clear-cells xs ∙ clear))

  -- nothing changes at a level that is not clear
  pub filled_not_clear : (at : PlainSum) (a : ℕ) (v : PlainSum) (xs : List PlainNode)
      → list_all (λ n. is_separate (related rel n.names n.bytes) || is_around (related rel n.names n.bytes)) xs ≡ false → cells xs ≡ filled rel at a v (cells xs)
  filled_not_clear at a v xs e =
      sym (ap (λ t. if t then insert (at ∷ []) a (Some v) (selected is_around rel (cells xs)) (selected is_separate rel (cells xs)) else cells xs) (is_clear-cells xs ∙ e))

-- no node is none
pub cells_none : (xs : List PlainNode) → cells xs ≡ none → xs ≡ []
cells_none [] e = refl
cells_none (x ∷ xs) e = absurd (cc)
