-- What a weight of each node comes to after the rules: how many nodes there are, and how many are at a region.
use Rattle.std.proofs.Common.{◌≡◌, ℕ, ◌+◌, ◌≤◌, Bool, true, false, List, [], ◌∷◌, Option, Some, refl, ap₂, arith}
use Rattle.std.specs.Prelude.{if◌then◌else◌}
use Rattle.std.specs.Int.{from_bool}
use Rattle.sym_terms.specs.Plain.{PlainSum}
use Rattle.memory_regions.specs.declared.region.Relation.{Relation}
use Rattle.memory_regions.specs.declared.region.Relation.TheVariants.{Alias, Separate, Inside, Around, Overlap, Unknown}
use Rattle.memory_regions.specs.declared.region.Region.{Region}
use Rattle.mem_forest.specs.Plain.{PlainForest, none, cell, count}
use Rattle.mem_forest.specs.Search.{is_here, found, count_at}
use Rattle.mem_forest.specs.Shape.{comes_before}
use Rattle.mem_forest.specs.Levels.{related, is_separate, is_inside, is_around, selected, has_inside, insert, value_if, nodes_if, written, inside_first, at_level}
use Rattle.mem_forest.specs.Store.{renewed, placed}
use Rattle.mem_forest.specs.Load.{is_clear, filled}
use Rattle.mem_forest.specs.Clear.{clear_values}

-- the sum of a weight of each node
abbrev pub weigh : (List PlainSum → ℕ → ℕ) → PlainForest → ℕ
weigh g none = 0
weigh g (cell ns b v under rest) = weigh g under + weigh g rest + g ns b

-- each node weighs 1
abbrev pub each_one : List PlainSum → ℕ → ℕ
each_one ns b = 1

-- a node at a region weighs 1
abbrev pub at_region : PlainSum → ℕ → List PlainSum → ℕ → ℕ
at_region at a ns b = from_bool (is_here at a ns b)

pub count_weigh : (f : PlainForest) → weigh each_one f ≡ count f
count_weigh none = refl
count_weigh (cell ns b v under rest) = ap₂ (λ x y. x + y + 1) (count_weigh under) (count_weigh rest)

pub count_at_weigh : (at : PlainSum) (a : ℕ) (f : PlainForest) → weigh (at_region at a) f ≡ count_at at a f
count_at_weigh at a none = refl
count_at_weigh at a (cell ns b v under rest) = omega (arith, count_at_weigh at a under, count_at_weigh at a rest)

-- no relation is both Around and Separate
one_of_both : (r : Relation) → is_around r ≡ true → is_separate r ≡ false
one_of_both Around e = refl
one_of_both Alias e = absurd (cc)
one_of_both Separate e = absurd (cc)
one_of_both Inside e = absurd (cc)
one_of_both Overlap e = absurd (cc)
one_of_both Unknown e = absurd (cc)

module _ (g : List PlainSum → ℕ → ℕ) where
  pub insert_weigh : (ns : List PlainSum) (b : ℕ) (v : Option PlainSum) (under f : PlainForest) → weigh g (insert ns b v under f) ≡ weigh g under + weigh g f + g ns b
  insert_weigh ns b v under none = refl
  insert_weigh ns b v under (cell ms c w below rest) =
      elim (comes_before ns b ms c) as (λ t. weigh g (if t then cell ns b v under (cell ms c w below rest) else cell ms c w below (insert ns b v under rest)) ≡ weigh g under + (weigh g below + weigh g rest + g ms c) + g ns b) [
        | true ↦ refl
        | false ↦ omega (arith, insert_weigh ns b v under rest)
      ]

  pub selected_weigh : (test : Relation → Bool) (rel : PlainSum → ℕ → Relation) (f : PlainForest) → weigh g (selected test rel f) ≤ weigh g f
  selected_weigh test rel none = omega arith
  selected_weigh test rel (cell ns b v under rest) =
      elim (test (related rel ns b)) as (λ t. weigh g (if t then cell ns b v under (selected test rel rest) else selected test rel rest) ≤ weigh g (cell ns b v under rest)) [
        | true ↦ omega (arith, selected_weigh test rel rest)
        | false ↦ omega (arith, selected_weigh test rel rest)
      ]

  -- the nodes that lie in a region, and those that are separate from it
  pub parted_weigh : (rel : PlainSum → ℕ → Relation) (f : PlainForest) → weigh g (selected is_around rel f) + weigh g (selected is_separate rel f) ≤ weigh g f
  parted_weigh rel none = omega arith
  parted_weigh rel (cell ns b v under rest) =
      (elim (is_around (related rel ns b)) as (λ t. is_around (related rel ns b) ≡ t → weigh g (if t then cell ns b v under (selected is_around rel rest) else selected is_around rel rest)
      + weigh g (if is_separate (related rel ns b) then cell ns b v under (selected is_separate rel rest) else selected is_separate rel rest) ≤ weigh g (cell ns b v under rest)) [
        | true ↦ λ e. rw (one_of_both (related rel ns b) e) (omega (arith, parted_weigh rel rest))
        | false ↦ λ e. elim (is_separate (related rel ns b)) as (λ t. weigh g (selected is_around rel rest)
            + weigh g (if t then cell ns b v under (selected is_separate rel rest) else selected is_separate rel rest) ≤ weigh g (cell ns b v under rest)) [
              | true ↦ omega (arith, parted_weigh rel rest)
              | false ↦ omega (arith, parted_weigh rel rest)
            ]
      ]) refl

  nodes_if_weigh : (keep : Bool) (f : PlainForest) → weigh g (nodes_if keep f) ≤ weigh g f
  nodes_if_weigh true f = omega arith
  nodes_if_weigh false f = omega arith

  pub written_weigh : (keep : Bool) (at : PlainSum) (a : ℕ) (v : Option PlainSum) (f : PlainForest) → weigh g (written keep at a v f) ≤ weigh g f
  written_weigh keep at a v none = omega arith
  written_weigh keep at a v (cell ns b w under rest) =
      elim (is_here at a ns b) as (λ t. weigh g (if t then cell ns b v (nodes_if keep under) rest
      else if found at a under then cell ns b (value_if keep w) (written keep at a v under) rest else cell ns b w under (written keep at a v rest)) ≤ weigh g (cell ns b w under rest)) [
        | true ↦ omega (arith, nodes_if_weigh keep under)
        | false ↦ elim (found at a under) as (λ t. weigh g (if t then cell ns b (value_if keep w) (written keep at a v under) rest else cell ns b w under (written keep at a v rest)) ≤ weigh g (cell ns b w under rest)) [
          | true ↦ omega (arith, written_weigh keep at a v under)
          | false ↦ omega (arith, written_weigh keep at a v rest)
        ]
      ]

  module _ (keep : Bool) (rel : PlainSum → ℕ → Relation) (k : ℕ) where
    module _ (change : PlainForest → PlainForest) (changed : (f : PlainForest) → weigh g (change f) ≤ weigh g f + k) where
      inside_first_fewer : (f : PlainForest) → weigh g (inside_first keep rel change f) ≤ weigh g f + k
      inside_first_fewer none = omega arith
      inside_first_fewer (cell ns b w under rest) =
          elim (is_inside (related rel ns b)) as (λ t. weigh g (if t then cell ns b (value_if keep w) (if has_inside rel under then inside_first keep rel change under else change under) rest
          else cell ns b w under (inside_first keep rel change rest)) ≤ weigh g (cell ns b w under rest) + k) [
            | true ↦ elim (has_inside rel under) as (λ t. weigh g (cell ns b (value_if keep w) (if t then inside_first keep rel change under else change under) rest) ≤ weigh g (cell ns b w under rest) + k) [
              | true ↦ omega (arith, inside_first_fewer under)
              | false ↦ omega (arith, changed under)
            ]
            | false ↦ omega (arith, inside_first_fewer rest)
          ]

      -- a change of one level that adds at most k
      pub at_level_fewer : (f : PlainForest) → weigh g (at_level keep rel change f) ≤ weigh g f + k
      at_level_fewer f = elim (has_inside rel f) as (λ t. weigh g (if t then inside_first keep rel change f else change f) ≤ weigh g f + k) [
        | true ↦ inside_first_fewer f
        | false ↦ changed f
      ]

    module _ (more less : PlainForest → PlainForest) (changed : (f : PlainForest) → weigh g (more f) ≤ weigh g (less f) + k) where
      inside_first_more : (f : PlainForest) → weigh g (inside_first keep rel more f) ≤ weigh g (inside_first keep rel less f) + k
      inside_first_more none = omega arith
      inside_first_more (cell ns b w under rest) =
          elim (is_inside (related rel ns b)) as (λ t. weigh g (if t then cell ns b (value_if keep w) (if has_inside rel under then inside_first keep rel more under else more under) rest
          else cell ns b w under (inside_first keep rel more rest))
          ≤ weigh g (if t then cell ns b (value_if keep w) (if has_inside rel under then inside_first keep rel less under else less under) rest else cell ns b w under (inside_first keep rel less rest)) + k) [
            | true ↦ elim (has_inside rel under) as (λ t. weigh g (cell ns b (value_if keep w) (if t then inside_first keep rel more under else more under) rest)
                ≤ weigh g (cell ns b (value_if keep w) (if t then inside_first keep rel less under else less under) rest) + k) [
                  | true ↦ omega (arith, inside_first_more under)
                  | false ↦ omega (arith, changed under)
                ]
            | false ↦ omega (arith, inside_first_more rest)
          ]

      -- two changes of one level that differ by at most k
      pub at_level_more : (f : PlainForest) → weigh g (at_level keep rel more f) ≤ weigh g (at_level keep rel less f) + k
      at_level_more f = elim (has_inside rel f) as (λ t. weigh g (if t then inside_first keep rel more f else more f) ≤ weigh g (if t then inside_first keep rel less f else less f) + k) [
        | true ↦ inside_first_more f
        | false ↦ changed f
      ]

  module _ (rel : PlainSum → ℕ → Relation) (at : PlainSum) (a : ℕ) where
    renewed_fewer : (v : Option PlainSum) (f : PlainForest) → weigh g (renewed rel at a v false f) ≤ weigh g f + 0
    renewed_fewer v f = omega (arith, selected_weigh is_separate rel f)

    renewed_more : (v : Option PlainSum) (f : PlainForest) → weigh g (renewed rel at a v true f) ≤ weigh g (renewed rel at a v false f) + g (at ∷ []) a
    renewed_more v f = omega (arith, insert_weigh (at ∷ []) a v none (selected is_separate rel f))

    pub placed_fewer : (v : Option PlainSum) (f : PlainForest) → weigh g (placed rel at a v false f) ≤ weigh g f
    placed_fewer v f = omega (arith, at_level_fewer false rel 0 (renewed rel at a v false) (renewed_fewer v) f)

    pub placed_more : (v : Option PlainSum) (f : PlainForest) → weigh g (placed rel at a v true f) ≤ weigh g (placed rel at a v false f) + g (at ∷ []) a
    placed_more v f = at_level_more false rel (g (at ∷ []) a) (renewed rel at a v true) (renewed rel at a v false) (renewed_more v) f

    filled_more : (v : PlainSum) (f : PlainForest) → weigh g (filled rel at a v f) ≤ weigh g f + g (at ∷ []) a
    filled_more v f = elim (is_clear rel f) as (λ t. weigh g (if t then insert (at ∷ []) a (Some v) (selected is_around rel f) (selected is_separate rel f) else f) ≤ weigh g f + g (at ∷ []) a) [
      | true ↦ omega (arith, insert_weigh (at ∷ []) a (Some v) (selected is_around rel f) (selected is_separate rel f), parted_weigh rel f)
      | false ↦ omega arith
    ]

    pub filled_level_more : (v : PlainSum) (f : PlainForest) → weigh g (at_level true rel (filled rel at a v) f) ≤ weigh g f + g (at ∷ []) a
    filled_level_more v f = at_level_fewer true rel (g (at ∷ []) a) (filled rel at a v) (filled_more v) f

  pub clear_weigh : (rs : List Region) (f : PlainForest) → weigh g (clear_values rs f) ≡ weigh g f
  clear_weigh rs none = refl
  clear_weigh rs (cell ns b v under rest) = ap₂ (λ x y. x + y + g ns b) (clear_weigh rs under) (clear_weigh rs rest)
