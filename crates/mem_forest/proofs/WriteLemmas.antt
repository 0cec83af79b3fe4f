-- One more node of a level in which the first node at a region takes a value.
use Rattle.std.proofs.Common.{◌≡◌, ℕ, ◌+◌, ◌<◌, ◌≤◌, Bool, true, false, ◌||◌, List, ◌∷◌, take, drop, length, Option, slice_set, slice_index_or, refl, sym, ap, ap₂, ◌∙◌, []}
use Rattle.std.specs.Prelude.{if◌then◌else◌}
use Rattle.std.proofs.lemmas.List.{take_more, drop_all}
use Rattle.sym_terms.specs.Plain.{PlainSum}
use Rattle.mem_forest.specs.Plain.{PlainForest, cell, PlainNode, cells}
use Rattle.mem_forest.specs.Search.{is_here, found}
use Rattle.mem_forest.specs.Levels.{value_if, nodes_if, written}
use Rattle.mem_forest.proofs.FrontLemmas.{front, one, front-append, front-split, front-set, cells_from}

module _ (keep : Bool) (at : PlainSum) (a : ℕ) (v : Option PlainSum) (xs : List PlainNode) (i : ℕ) (d z : PlainNode) (is_z : z ≡ slice_index_or xs i d) (within : i < length xs) where
  abbrev after : PlainForest
  after = cells (drop (i + 1) xs)

  abbrev written_by : Bool → Bool → PlainForest
  written_by here under =
      if here then cell z.names z.bytes v (nodes_if keep z.under) (cells (drop (i + 1) xs))
      else if under then cell z.names z.bytes (value_if keep z.value) (written keep at a v z.under) (cells (drop (i + 1) xs))
      else cell z.names z.bytes z.value z.under (written keep at a v (cells (drop (i + 1) xs)))

  written_at : (here under : Bool) → is_here at a z.names z.bytes ≡ here → found at a z.under ≡ under → written keep at a v (cells (drop i xs)) ≡ written_by here under
  written_at here under e g = ap (written keep at a v) (cells_from xs i d z is_z within) ∙ ap₂ written_by e g

  -- the node is at the region
  pub write_here : (y : PlainNode) (whole : PlainForest) → is_here at a z.names z.bytes ≡ true → y ≡ record { names = z.names; bytes = z.bytes; value = v; under = nodes_if keep z.under }
      → front (take i xs) (written keep at a v (cells (drop i xs))) ≡ whole → cells (slice_set xs i y) ≡ whole
  write_here y whole t e r =
      front-set xs i y within ∙ ap (front (take i xs)) (ap (λ n. one n (cells (drop (i + 1) xs))) e ∙ sym (written_at true (found at a z.under) t refl)) ∙ r

  -- a node under it is
  pub write_under : (y : PlainNode) (whole : PlainForest) → is_here at a z.names z.bytes ≡ false → found at a z.under ≡ true
      → y ≡ record { names = z.names; bytes = z.bytes; value = value_if keep z.value; under = written keep at a v z.under }
      → front (take i xs) (written keep at a v (cells (drop i xs))) ≡ whole → cells (slice_set xs i y) ≡ whole
  write_under y whole t g e r =
      front-set xs i y within ∙ ap (front (take i xs)) (ap (λ n. one n (cells (drop (i + 1) xs))) e ∙ sym (written_at false true t g)) ∙ r

  -- none is
  pub write_after : (whole : PlainForest) → is_here at a z.names z.bytes ≡ false → found at a z.under ≡ false
      → front (take i xs) (written keep at a v (cells (drop i xs))) ≡ whole → front (take (i + 1) xs) (written keep at a v (cells (drop (i + 1) xs))) ≡ whole
  write_after whole t g r =
      ap (λ ns. front ns (written keep at a v (cells (drop (i + 1) xs)))) (take_more xs i d within)
      ∙ front-append (take i xs) (slice_index_or xs i d ∷ []) (written keep at a v (cells (drop (i + 1) xs)))
      ∙ ap (front (take i xs)) (ap (λ n. one n (written keep at a v (cells (drop (i + 1) xs)))) (sym is_z) ∙ sym (written_at false false t g)) ∙ r

  pub found_after : is_here at a z.names z.bytes ≡ false → found at a z.under ≡ false → found at a (cells (drop (i + 1) xs)) ≡ found at a (cells (drop i xs))
  found_after t g = sym (ap (found at a) (cells_from xs i d z is_z within) ∙ ap₂ (λ p q. p || (q || found at a (cells (drop (i + 1) xs)))) t g)

-- no node is left
pub write_end : (keep : Bool) (at : PlainSum) (a : ℕ) (v : Option PlainSum) (xs : List PlainNode) (i : ℕ) (whole : PlainForest) → length xs ≤ i
    → front (take i xs) (written keep at a v (cells (drop i xs))) ≡ whole → cells xs ≡ whole
write_end keep at a v xs i whole h r =
    sym (front-split i xs) ∙ ap (λ f. front (take i xs) f) (ap cells (drop_all i xs h) ∙ sym (ap (λ ns. written keep at a v (cells ns)) (drop_all i xs h))) ∙ r
