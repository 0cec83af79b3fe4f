-- One more name among ascending names, and of one node of a level.
use Rattle.std.proofs.Common.{◌≡◌, ℕ, zero, suc, ◌+◌, ◌<◌, ◌≤◌, Bool, true, false, ◌||◌, List, [], ◌∷◌, ◌++◌, take, drop, length, Option, Some, None, slice_set, slice_index_or, refl, sym, ap, ap₂, ◌∙◌, arith}
use Rattle.std.specs.Prelude.{if◌then◌else◌, cond, not, slice_get}
use Rattle.std.specs.Option.{option_map_or}
use Rattle.std.specs.declared.cmp.Ordering.{Ordering}
use Rattle.std.specs.declared.cmp.Ordering.TheVariants.{Less, Equal, Greater}
use Rattle.std.specs.Ordering.{is_eq, is_gt}
use Rattle.std.specs.List.{position_or_len, insert as insert_item}
use Rattle.std.proofs.lemmas.List.{take-set, drop-set, drop-set-lt, drop_all, get_or-set_same, length-set}
use Rattle.sym_terms.specs.Plain.{PlainSum}
use Rattle.sym_terms.specs.Order.{sum_cmp}
use Rattle.mem_forest.specs.Plain.{PlainForest, none, cell, PlainNode, cells}
use Rattle.mem_forest.specs.Search.{is_here, found}
use Rattle.mem_forest.specs.Levels.{insert, inserted}
use Rattle.mem_forest.specs.Alias.{with_name, renamed}
use Rattle.mem_forest.proofs.FrontLemmas.{one, cells_from}
use Rattle.mem_forest.proofs.SettleLemmas.{inserted_more}

module _ (t : PlainSum) where
  abbrev place : List PlainSum → ℕ
  place ns = position_or_len (λ n. not (is_gt (sum_cmp t n))) ns

  abbrev is_at : List PlainSum → ℕ → Bool
  is_at ns k = option_map_or (λ n. is_eq (sum_cmp t n)) (slice_get ns k) false

  grown : (n : PlainSum) (ns : List PlainSum) (o : Bool) → n ∷ (if o then ns else insert_item ns (place ns) t) ≡ (if o then n ∷ ns else n ∷ insert_item ns (place ns) t)
  grown n ns true = refl
  grown n ns false = refl

  abbrev lhs : PlainSum → List PlainSum → Ordering → List PlainSum
  lhs n ns o = elim o as (λ o. List PlainSum) [ Less ↦ t ∷ n ∷ ns | Equal ↦ n ∷ ns | Greater ↦ n ∷ with_name t ns ]

  abbrev rhs : PlainSum → List PlainSum → ℕ → List PlainSum
  rhs n ns k = if is_at (n ∷ ns) k then n ∷ ns else insert_item (n ∷ ns) k t

  by_order : (n : PlainSum) (ns : List PlainSum) → with_name t ns ≡ (if is_at ns (place ns) then ns else insert_item ns (place ns) t) → (o : Ordering) → sum_cmp t n ≡ o
      → with_name t (n ∷ ns) ≡ (if is_at (n ∷ ns) (place (n ∷ ns)) then n ∷ ns else insert_item (n ∷ ns) (place (n ∷ ns)) t)
  by_order n ns h Less e = ap (lhs n ns) e ∙ sym (ap (rhs n ns) (ap (λ o. cond (not (not (is_gt o))) (1 + place ns) 0) e) ∙ ap (λ o. if is_eq o then n ∷ ns else t ∷ n ∷ ns) e)
  by_order n ns h Equal e = ap (lhs n ns) e ∙ sym (ap (rhs n ns) (ap (λ o. cond (not (not (is_gt o))) (1 + place ns) 0) e) ∙ ap (λ o. if is_eq o then n ∷ ns else t ∷ n ∷ ns) e)
  by_order n ns h Greater e =
      let next : 1 + place ns ≡ suc (place ns) = omega arith in
      ap (lhs n ns) e ∙ ap (λ ms. n ∷ ms) h ∙ grown n ns (is_at ns (place ns))
      ∙ sym (ap (rhs n ns) (ap (λ o. cond (not (not (is_gt o))) (1 + place ns) 0) e ∙ next))

  -- names with one more: as they are where it stands at its place, else with it there
  pub with_name-at : (ns : List PlainSum) → with_name t ns ≡ (if is_at ns (place ns) then ns else insert_item ns (place ns) t)
  with_name-at [] = refl
  with_name-at (n ∷ ns) = by_order n ns (with_name-at ns) (sum_cmp t n) refl

module _ (t at : PlainSum) (b : ℕ) (xs : List PlainNode) (i : ℕ) (d z : PlainNode) (is_z : z ≡ slice_index_or xs i d) (within : i < length xs) where
  abbrev renamed_by : Bool → Bool → PlainForest
  renamed_by here under =
      if here then insert (with_name t z.names) z.bytes z.value z.under (cells (drop (i + 1) xs))
      else if under then cell z.names z.bytes z.value (renamed t at b z.under) (cells (drop (i + 1) xs))
      else insert z.names z.bytes z.value z.under (renamed t at b (cells (drop (i + 1) xs)))

  renamed_at : (here under : Bool) → is_here at b z.names z.bytes ≡ here → found at b z.under ≡ under → renamed t at b (cells (drop i xs)) ≡ renamed_by here under
  renamed_at here under e g = ap (renamed t at b) (cells_from xs i d z is_z within) ∙ ap₂ renamed_by e g

  -- the node is at the region
  pub rename_here : (y : PlainNode) (f whole : PlainForest) → is_here at b z.names z.bytes ≡ true → y ≡ record { names = with_name t z.names; bytes = z.bytes; value = z.value; under = z.under }
      → f ≡ inserted (take (i + 1) (slice_set xs i y)) (cells (drop (i + 1) (slice_set xs i y))) → inserted (take i xs) (renamed t at b (cells (drop i xs))) ≡ whole → f ≡ whole
  rename_here y f whole e is_y is_f r =
      is_f ∙ inserted_more (slice_set xs i y) i d (cells (drop (i + 1) (slice_set xs i y))) (omega (arith, length-set xs i y, within))
      ∙ ap₂ (λ ns ms. inserted ns (insert (slice_index_or (slice_set xs i y) i d).names (slice_index_or (slice_set xs i y) i d).bytes (slice_index_or (slice_set xs i y) i d).value (slice_index_or (slice_set xs i y) i d).under (cells ms))) (take-set xs i y) (drop-set-lt (i + 1) xs i y (omega arith))
      ∙ ap (λ n. inserted (take i xs) (insert n.names n.bytes n.value n.under (cells (drop (i + 1) xs)))) (get_or-set_same xs i y d within ∙ is_y)
      ∙ ap (inserted (take i xs)) (sym (renamed_at true (found at b z.under) e refl)) ∙ r

  -- a node under it is
  pub rename_under : (y : PlainNode) (f whole : PlainForest) → is_here at b z.names z.bytes ≡ false → found at b z.under ≡ true → y ≡ record { names = z.names; bytes = z.bytes; value = z.value; under = renamed t at b z.under }
      → f ≡ inserted (take i (slice_set xs i y)) (cells (drop i (slice_set xs i y))) → inserted (take i xs) (renamed t at b (cells (drop i xs))) ≡ whole → f ≡ whole
  rename_under y f whole e g is_y is_f r =
      is_f ∙ ap₂ (λ ns ms. inserted ns (cells ms)) (take-set xs i y) (drop-set xs i y within)
      ∙ ap (λ n. inserted (take i xs) (one n (cells (drop (i + 1) xs)))) is_y
      ∙ ap (inserted (take i xs)) (sym (renamed_at false true e g)) ∙ r

  -- none is
  pub rename_after : (whole : PlainForest) → is_here at b z.names z.bytes ≡ false → found at b z.under ≡ false → inserted (take i xs) (renamed t at b (cells (drop i xs))) ≡ whole
      → inserted (take (i + 1) xs) (renamed t at b (cells (drop (i + 1) xs))) ≡ whole
  rename_after whole e g r =
      inserted_more xs i d (renamed t at b (cells (drop (i + 1) xs))) within
      ∙ ap (λ n. inserted (take i xs) (insert n.names n.bytes n.value n.under (renamed t at b (cells (drop (i + 1) xs))))) (sym is_z)
      ∙ ap (inserted (take i xs)) (sym (renamed_at false false e g)) ∙ r

  pub search_after : is_here at b z.names z.bytes ≡ false → found at b z.under ≡ false → found at b (cells (drop (i + 1) xs)) ≡ found at b (cells (drop i xs))
  search_after t g = sym (ap (found at b) (cells_from xs i d z is_z within) ∙ ap₂ (λ p q. p || (q || found at b (cells (drop (i + 1) xs)))) t g)

-- no node of a level that was searched is at the region
pub search_end : (at : PlainSum) (b : ℕ) (xs : List PlainNode) (i : ℕ) (whole : Bool) → length xs ≤ i → found at b (cells (drop i xs)) ≡ whole → false ≡ whole
search_end at b xs i whole h r = sym (ap (λ ns. found at b (cells ns)) (drop_all i xs h)) ∙ r
