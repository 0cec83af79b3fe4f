-- A store where the region is not found: the level where it belongs is renewed.
use Rattle.std.proofs.Common.{◌≡◌, ℕ, ◌+◌, ◌≤◌, Bool, false, List, Option, Some, None, slice_set, slice_index_or, sym, ap, ◌∙◌, arith}
use Rattle.std.specs.Prelude.{nat_lt, filter}
use Rattle.std.specs.List.{position}
use Rattle.std.proofs.lemmas.List.Quantifiers.{position-Some}
use Rattle.sym_terms.specs.Plain.{PlainSum}
use Rattle.memory_regions.specs.declared.region.Relation.{Relation}
use Rattle.mem_forest.specs.Plain.{PlainForest, PlainNode, cells, count}
use Rattle.mem_forest.specs.Levels.{related, is_separate, is_inside, selected}
use Rattle.mem_forest.specs.Store.{renewed, placed}
use Rattle.mem_forest.proofs.PlaceLemmas.{selected-cells, went_under, at_level-none, at_level-some}
use Rattle.mem_forest.proofs.CountLemmas.{nat_lt-same, count-set, count-selected}

module _ (rel : PlainSum → ℕ → Relation) where
  -- a level as a list, of which the nodes that are Separate from the region stay
  pub kept_cells : (old mid new : List PlainNode) → mid ≡ old → new ≡ filter (λ n. is_separate (related rel n.names n.bytes)) mid → cells new ≡ selected is_separate rel (cells old)
  kept_cells old mid new e g =
      ap cells (g ∙ ap (filter (λ (n : PlainNode). is_separate (related rel n.names n.bytes))) e) ∙ sym (selected-cells is_separate rel old)

  -- there are not more of them
  pub kept_count : (old mid new : List PlainNode) → mid ≡ old → new ≡ filter (λ n. is_separate (related rel n.names n.bytes)) mid → count (cells new) ≤ count (cells old)
  kept_count old mid new e g = omega (arith, ap count (kept_cells old mid new e g), count-selected is_separate rel (cells old))

  module _ (at : PlainSum) (a : ℕ) (v : Option PlainSum) where
    -- where the region is Inside no node, the level is renewed
    pub placed-none : (total : ℕ) (xs : List PlainNode) → position (λ n. is_inside (related rel n.names n.bytes)) xs ≡ None
        → renewed rel at a v (nat_lt (total + count (selected is_separate rel (cells xs))) (64 + count (cells xs))) (cells xs)
        ≡ placed rel at a v (nat_lt (total + count (placed rel at a v false (cells xs))) (64 + count (cells xs))) (cells xs)
    placed-none total xs e =
        let under : (room : Bool) → placed rel at a v room (cells xs) ≡ renewed rel at a v room (cells xs) = λ room. at_level-none false rel (renewed rel at a v room) xs e in
        ap (λ f. renewed rel at a v (nat_lt (total + count f) (64 + count (cells xs))) (cells xs)) (sym (under false)) ∙ sym (under _)

    -- else the nodes under the first node that it is Inside
    pub placed-some : (total : ℕ) (xs : List PlainNode) (i : ℕ) (d z : PlainNode) (u : PlainForest) → position (λ n. is_inside (related rel n.names n.bytes)) xs ≡ Some i → z ≡ slice_index_or xs i d
        → u ≡ placed rel at a v (nat_lt (total + count (placed rel at a v false z.under)) (64 + count z.under)) z.under
        → cells (slice_set xs i (record { names = z.names; bytes = z.bytes; value = None; under = u })) ≡ placed rel at a v (nat_lt (total + count (placed rel at a v false (cells xs))) (64 + count (cells xs))) (cells xs)
    placed-some total xs i d z u e is_z is_u =
        let p = position-Some (λ (n : PlainNode). is_inside (related rel n.names n.bytes)) xs i d e in
        let under : (room : Bool) → placed rel at a v room (cells xs) ≡ cells (slice_set xs i (went_under false rel (renewed rel at a v room) z)) =
        λ room. at_level-some false rel (renewed rel at a v room) xs i d e ∙ ap (λ n. cells (slice_set xs i (went_under false rel (renewed rel at a v room) n))) (sym is_z) in
        let counts : count (placed rel at a v false (cells xs)) + count z.under ≡ count (cells xs) + count (placed rel at a v false z.under) =
        ap (λ n. count (placed rel at a v false (cells xs)) + count n.under) is_z ∙ ap (λ f. count f + count (slice_index_or xs i d).under) (under false) ∙ count-set xs i d _ p.0 in
        let room : nat_lt (total + count (placed rel at a v false z.under)) (64 + count z.under) ≡ nat_lt (total + count (placed rel at a v false (cells xs))) (64 + count (cells xs)) =
        nat_lt-same _ _ _ _ (omega (arith, counts)) in
        ap (λ f. cells (slice_set xs i (let n : PlainNode = record { names = z.names; bytes = z.bytes; value = None; under = f } in n))) (is_u ∙ ap (λ r. placed rel at a v r z.under) room) ∙ sym (under _)
