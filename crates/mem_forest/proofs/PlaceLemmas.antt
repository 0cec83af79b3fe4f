-- Where a node comes into a level, and which node of it a rule goes under.
use Rattle.std.proofs.Common.{◌≡◌, ℕ, zero, suc, ◌+◌, ◌<◌, ◌≤◌, Bool, true, false, ◌||◌, List, [], ◌∷◌, length, Some, None, slice_set, slice_index_or, refl, sym, ap, ◌∙◌, inl, inr, arith}
use Rattle.std.specs.Prelude.{if◌then◌else◌, cond, not, filter, nat_lt, unwrap_or}
use Rattle.std.specs.List.{position, position_or_len, insert as insert_item}
use Rattle.std.proofs.lemmas.Bool.{cases_Bool, ltb-false}
use Rattle.std.proofs.lemmas.List.Quantifiers.{position-Some}
use Rattle.sym_terms.specs.Plain.{PlainSum}
use Rattle.memory_regions.specs.declared.region.Relation.{Relation}
use Rattle.mem_forest.specs.Plain.{PlainForest, cell, PlainNode, cells}
use Rattle.mem_forest.specs.Shape.{comes_before}
use Rattle.mem_forest.specs.Levels.{related, is_inside, selected, has_inside, insert, value_if, inside_first, at_level}
use Rattle.mem_forest.proofs.FrontLemmas.{one}

-- the nodes of a level that pass are those of its list
pub selected-cells : (test : Relation → Bool) (rel : PlainSum → ℕ → Relation) (xs : List PlainNode) → selected test rel (cells xs) ≡ cells (filter (λ n. test (related rel n.names n.bytes)) xs)
selected-cells test rel [] = refl
selected-cells test rel (x ∷ xs) =
    elim (test (related rel x.names x.bytes)) as (λ t. (if t then cell x.names x.bytes x.value x.under (selected test rel (cells xs)) else selected test rel (cells xs))
    ≡ cells (cond t (x ∷ filter (λ n. test (related rel n.names n.bytes)) xs) (filter (λ n. test (related rel n.names n.bytes)) xs))) [
      | true ↦ ap (one x) (selected-cells test rel xs)
      | false ↦ selected-cells test rel xs
    ]

-- a place of the first item that passes is at most the length
pub position_or_len-le : {X : Type 0} (p : X → Bool) (xs : List X) → position_or_len p xs ≤ length xs
position_or_len-le p [] = omega arith
position_or_len-le p (x ∷ xs) =
    elim (p x) as (λ t. cond (not t) (1 + position_or_len p xs) 0 ≤ suc (length xs)) [
      | true ↦ omega arith
      | false ↦ omega (arith, position_or_len-le p xs)
    ]

-- the first place at which a test passes, else the length
pub position_unwrapped : {X : Type 0} (p : X → Bool) (xs : List X) → unwrap_or (position p xs) (length xs) ≡ position_or_len p xs
position_unwrapped p xs =
    (elim (nat_lt (position_or_len p xs) (length xs)) as (λ t. nat_lt (position_or_len p xs) (length xs) ≡ t → unwrap_or (cond t (Some (position_or_len p xs)) None) (length xs) ≡ position_or_len p xs) [
      | true ↦ λ e. refl
      | false ↦ λ e. let h : length xs ≤ position_or_len p xs = ltb-false _ _ e in omega (arith, position_or_len-le p xs)
    ]) refl

-- a node comes into a level before the first node that it stands before
pub insert-cells : (n : PlainNode) (xs : List PlainNode) → insert n.names n.bytes n.value n.under (cells xs) ≡ cells (insert_item xs (position_or_len (λ m. comes_before n.names n.bytes m.names m.bytes) xs) n)
insert-cells n [] = refl
insert-cells n (x ∷ xs) =
    let at : ℕ = position_or_len (λ m. comes_before n.names n.bytes m.names m.bytes) xs in
    let next : 1 + at ≡ suc at = omega arith in
    elim (comes_before n.names n.bytes x.names x.bytes) as (λ t. (if t then one n (one x (cells xs)) else one x (insert n.names n.bytes n.value n.under (cells xs)))
    ≡ cells (insert_item (x ∷ xs) (cond (not t) (1 + position_or_len (λ m. comes_before n.names n.bytes m.names m.bytes) xs) 0) n)) [
      | true ↦ refl
      | false ↦ ap (one x) (insert-cells n xs) ∙ ap (λ k. cells (insert_item (x ∷ xs) k n)) (sym next)
    ]

module _ (keep : Bool) (rel : PlainSum → ℕ → Relation) (change : PlainForest → PlainForest) where
  -- a node under which a rule went
  abbrev pub went_under : PlainNode → PlainNode
  went_under n = record { names = n.names; bytes = n.bytes; value = value_if keep n.value; under = at_level keep rel change n.under }

  has_inside-from : (xs : List PlainNode) (i : ℕ) (d : PlainNode) → i < length xs → is_inside (related rel (slice_index_or xs i d).names (slice_index_or xs i d).bytes) ≡ true → has_inside rel (cells xs) ≡ true
  has_inside-from [] i d h t = absurd (omega arith)
  has_inside-from (x ∷ xs) zero d h t = ap (λ b. b || has_inside rel (cells xs)) t
  has_inside-from (x ∷ xs) (suc i) d h t = elim (cases_Bool (is_inside (related rel x.names x.bytes))) [
    | inl q ↦ ap (λ b. b || has_inside rel (cells xs)) q
    | inr q ↦ ap (λ b. b || has_inside rel (cells xs)) q ∙ has_inside-from xs i d (omega arith) t
  ]

  inside_first-from : (xs : List PlainNode) (i : ℕ) (d : PlainNode) → i < length xs → is_inside (related rel (slice_index_or xs i d).names (slice_index_or xs i d).bytes) ≡ true
      → ((k : ℕ) → k < i → is_inside (related rel (slice_index_or xs k d).names (slice_index_or xs k d).bytes) ≡ false)
      → inside_first keep rel change (cells xs) ≡ cells (slice_set xs i (went_under (slice_index_or xs i d)))
  inside_first-from [] i d h t f = absurd (omega arith)
  inside_first-from (x ∷ xs) zero d h t f =
      ap (λ b. if b then cell x.names x.bytes (value_if keep x.value) (at_level keep rel change x.under) (cells xs) else cell x.names x.bytes x.value x.under (inside_first keep rel change (cells xs))) t
  inside_first-from (x ∷ xs) (suc i) d h t f =
      ap (λ b. if b then cell x.names x.bytes (value_if keep x.value) (at_level keep rel change x.under) (cells xs) else cell x.names x.bytes x.value x.under (inside_first keep rel change (cells xs))) (f 0 (omega arith))
      ∙ ap (one x) (inside_first-from xs i d (omega arith) t (λ k l. f (suc k) (omega arith)))

  -- a rule goes under the first node that the region is Inside
  pub at_level-from : (xs : List PlainNode) (i : ℕ) (d : PlainNode) → i < length xs → is_inside (related rel (slice_index_or xs i d).names (slice_index_or xs i d).bytes) ≡ true
      → ((k : ℕ) → k < i → is_inside (related rel (slice_index_or xs k d).names (slice_index_or xs k d).bytes) ≡ false)
      → at_level keep rel change (cells xs) ≡ cells (slice_set xs i (went_under (slice_index_or xs i d)))
  at_level-from xs i d h t f =
      ap (λ b. if b then inside_first keep rel change (cells xs) else change (cells xs)) (has_inside-from xs i d h t) ∙ inside_first-from xs i d h t f

  -- a level with no place at which a test passes
  has_inside-none : (xs : List PlainNode) → length xs ≤ position_or_len (λ n. is_inside (related rel n.names n.bytes)) xs → has_inside rel (cells xs) ≡ false
  has_inside-none [] h = refl
  has_inside-none (x ∷ xs) h =
      elim (is_inside (related rel x.names x.bytes)) as (λ t. suc (length xs) ≤ cond (not t) (1 + position_or_len (λ n. is_inside (related rel n.names n.bytes)) xs) 0 → (t || has_inside rel (cells xs)) ≡ false) [
        | true ↦ λ g. absurd (omega (arith, g))
        | false ↦ λ g. has_inside-none xs (omega (arith, g))
      ] h

  -- where no node is found that the region is Inside, the level changes
  pub at_level-none : (xs : List PlainNode) → position (λ n. is_inside (related rel n.names n.bytes)) xs ≡ None → at_level keep rel change (cells xs) ≡ change (cells xs)
  at_level-none xs e =
      let none_inside : has_inside rel (cells xs) ≡ false =
      (elim (nat_lt (position_or_len (λ n. is_inside (related rel n.names n.bytes)) xs) (length xs)) as
      (λ t. nat_lt (position_or_len (λ n. is_inside (related rel n.names n.bytes)) xs) (length xs) ≡ t → cond t (Some (position_or_len (λ n. is_inside (related rel n.names n.bytes)) xs)) None ≡ None → has_inside rel (cells xs) ≡ false) [
        | true ↦ λ q g. absurd (cc)
        | false ↦ λ q g. has_inside-none xs (ltb-false _ _ q)
      ]) refl e in
      ap (λ b. if b then inside_first keep rel change (cells xs) else change (cells xs)) none_inside

  -- else the rule goes under that node
  pub at_level-some : (xs : List PlainNode) (i : ℕ) (d : PlainNode) → position (λ n. is_inside (related rel n.names n.bytes)) xs ≡ Some i
      → at_level keep rel change (cells xs) ≡ cells (slice_set xs i (went_under (slice_index_or xs i d)))
  at_level-some xs i d e =
      let p = position-Some (λ (n : PlainNode). is_inside (related rel n.names n.bytes)) xs i d e in
      at_level-from xs i d p.0 p.1 p.2
