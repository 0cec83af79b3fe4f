-- One more node of a level of which only some values stay.
use Rattle.std.proofs.Common.{◌≡◌, ℕ, ◌+◌, ◌<◌, ◌≤◌, List, [], ◌∷◌, take, drop, length, slice_set, slice_index_or, refl, sym, ap, ap₂, ◌∙◌, arith}
use Rattle.std.proofs.lemmas.List.{drop_all, take_more_set, drop-set-lt}
use Rattle.memory_regions.specs.declared.region.Region.{Region}
use Rattle.mem_forest.specs.Plain.{PlainForest, none, cell, PlainNode, cells, count}
use Rattle.mem_forest.specs.Levels.{value_if}
use Rattle.mem_forest.specs.Clear.{is_any_here, clear_values}
use Rattle.mem_forest.proofs.FrontLemmas.{front, one, front-append, front-split, cells_from}
use Rattle.mem_forest.proofs.CountLemmas.{count-set}

pub count-clear : (rs : List Region) (f : PlainForest) → count (clear_values rs f) ≡ count f
count-clear rs none = refl
count-clear rs (cell ns b v under rest) = ap₂ (λ x y. x + y + 1) (count-clear rs under) (count-clear rs rest)

-- a node of which only some values stay
abbrev pub cleared : List Region → PlainNode → PlainNode
cleared rs z = record { names = z.names; bytes = z.bytes; value = value_if (is_any_here rs z.names z.bytes) z.value; under = clear_values rs z.under }

module _ (rs : List Region) (xs : List PlainNode) (i : ℕ) (d z y : PlainNode) (is_z : z ≡ slice_index_or xs i d) (within : i < length xs) (is_y : y ≡ cleared rs z) where
  -- the node changes in its place
  pub clear_more : (whole : PlainForest) → front (take i xs) (clear_values rs (cells (drop i xs))) ≡ whole
      → front (take (i + 1) (slice_set xs i y)) (clear_values rs (cells (drop (i + 1) (slice_set xs i y)))) ≡ whole
  clear_more whole r =
      let rest = clear_values rs (cells (drop (i + 1) xs)) in
      ap (λ ns. front (take (i + 1) (slice_set xs i y)) (clear_values rs (cells ns))) (drop-set-lt (i + 1) xs i y (omega arith))
      ∙ ap (λ ns. front ns (clear_values rs (cells (drop (i + 1) xs)))) (take_more_set xs i y within)
      ∙ front-append (take i xs) (y ∷ []) (clear_values rs (cells (drop (i + 1) xs)))
      ∙ ap (λ n. front (take i xs) (one n (clear_values rs (cells (drop (i + 1) xs))))) is_y
      ∙ ap (front (take i xs)) (sym (ap (clear_values rs) (cells_from xs i d z is_z within))) ∙ r

  -- the number of nodes stays
  pub count_cleared : count (cells (slice_set xs i y)) ≡ count (cells xs)
  count_cleared =
      omega (arith, count-set xs i d y within, ap (λ n. count n.under) is_y, ap (λ n. count n.under) is_z, count-clear rs z.under)

-- no node is left
pub clear_end : (rs : List Region) (xs : List PlainNode) (i : ℕ) (whole : PlainForest) → length xs ≤ i → front (take i xs) (clear_values rs (cells (drop i xs))) ≡ whole → cells xs ≡ whole
clear_end rs xs i whole h r =
    sym (front-split i xs) ∙ ap (front (take i xs)) (ap cells (drop_all i xs h) ∙ sym (ap (λ ns. clear_values rs (cells ns)) (drop_all i xs h))) ∙ r
