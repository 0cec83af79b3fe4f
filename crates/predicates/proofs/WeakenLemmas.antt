-- What a predicate keeps where only the conjuncts stay that another entails.
use Rattle.std.proofs.Common.{◌≡◌, ℕ, zero, suc, ◌+◌, ◌-◌, ◌<◌, ◌≤◌, Bool, true, false, ◌&&◌, List, [], ◌∷◌, take, drop, length, Option, slice_index_or, filter, refl, sym, ap, ◌∙◌, subst, arith}
use Rattle.std.specs.Prelude.{cond, nat_le}
use Rattle.std.specs.declared.cmp.Ordering.{Ordering}
use Rattle.std.specs.declared.cmp.Ordering.TheVariants.{Less, Equal, Greater}
use Rattle.std.specs.Ordering.{is_lt}
use Rattle.std.specs.List.{list_all, remove}
use Rattle.std.proofs.lemmas.Bool.{and_parts, and_from, leb-true, le-leb}
use Rattle.std.proofs.lemmas.List.{take-take, get_or-take}
use Rattle.sym_terms.specs.Plain.{PlainSum}
use Rattle.sym_terms.specs.Order.{sum_cmp}
use Rattle.sym_terms.specs.Codes.{sum_total}
use Rattle.predicates.specs.declared.bound.Bound.{Bound}
use Rattle.predicates.specs.Limits.{most_bounds}
use Rattle.predicates.specs.Bounds.{in_order, key_before, keys_ascend, are_values, are_formed, are_bounds}
use Rattle.predicates.specs.Weaken.{weaker_registers}

-- ---- from the last item of a list on

module _ {X : Type 0} where
  drop_removed : (xs : List X) (i : ℕ) → drop i (remove xs i) ≡ drop (i + 1) xs
  drop_removed [] zero = refl
  drop_removed [] (suc i) = let e : suc i + 1 ≡ suc (i + 1) = omega arith in rw e refl
  drop_removed (x ∷ xs) zero = refl
  drop_removed (x ∷ xs) (suc i) = let e : suc i + 1 ≡ suc (i + 1) = omega arith in rw e (drop_removed xs i)

  take_removed : (xs : List X) (i : ℕ) → take i (remove xs i) ≡ take i xs
  take_removed [] zero = refl
  take_removed [] (suc i) = refl
  take_removed (x ∷ xs) zero = refl
  take_removed (x ∷ xs) (suc i) = ap (λ ns. x ∷ ns) (take_removed xs i)

  still_within : (xs : List X) (i : ℕ) → i < length xs → i ≤ length (remove xs i)
  still_within [] i h = absurd (omega arith)
  still_within (x ∷ xs) zero h = omega arith
  still_within (x ∷ xs) (suc i) h = omega (arith, still_within xs i (omega (arith, h)))

  -- what passes of a list from an item on that doesn't
  filter_from : (p : X → Bool) (xs : List X) (i : ℕ) (d : X) → i < length xs → p (slice_index_or xs i d) ≡ false → filter p (drop i xs) ≡ filter p (drop (i + 1) xs)
  filter_from p [] i d h e = absurd (omega arith)
  filter_from p (x ∷ xs) zero d h e = ap (λ b. cond b (x ∷ filter p xs) (filter p xs)) e
  filter_from p (x ∷ xs) (suc i) d h e =
      let q : suc i + 1 ≡ suc (i + 1) = omega arith in
      rw q (filter_from p xs i d (omega (arith, h)) e)

  -- xs is what is left of old with the items from `left` on done: one more, that doesn't pass, goes
  module _ (p : X → Bool) (old xs new : List X) (left : ℕ) (z : X) (inside : left ≤ length old) (before : take left xs ≡ take left old)
      (after : drop left xs ≡ filter p (drop left old)) (is_z : z ≡ slice_index_or xs (left - 1) z) (fails : false ≡ p z) (gone : new ≡ remove xs (left - 1)) where
    last : 1 ≤ left → left - 1 + 1 ≡ left
    last h = omega arith

    still_before : take (left - 1) new ≡ take (left - 1) old
    still_before =
        ap (take (left - 1)) gone ∙ take_removed xs (left - 1) ∙ sym (take-take (left - 1) left xs (omega arith)) ∙ ap (take (left - 1)) before ∙ take-take (left - 1) left old (omega arith)

    same_item : 1 ≤ left → slice_index_or old (left - 1) z ≡ z
    same_item h =
        sym (get_or-take left old (left - 1) z (omega arith)) ∙ ap (λ ns. slice_index_or ns (left - 1) z) (sym before) ∙ get_or-take left xs (left - 1) z (omega arith) ∙ sym is_z

    item_goes : 1 ≤ left → drop (left - 1) new ≡ filter p (drop (left - 1) old)
    item_goes h =
        ap (drop (left - 1)) gone ∙ drop_removed xs (left - 1) ∙ ap (λ n. drop n xs) (last h) ∙ after ∙ ap (λ n. filter p (drop n old)) (sym (last h))
        ∙ sym (filter_from p old (left - 1) z (omega arith) (ap p (same_item h) ∙ sym fails))

    pub one_goes : 1 ≤ left → left ≤ length xs
        → record { within : left - 1 ≤ length new; inside : left - 1 ≤ length old; before : take (left - 1) new ≡ take (left - 1) old; weaker : drop (left - 1) new ≡ filter p (drop (left - 1) old) }
    one_goes h within = record {
      within = subst (λ ns. left - 1 ≤ length ns) (sym gone) (still_within xs (left - 1) (omega arith));
      inside = omega arith;
      before = still_before;
      weaker = item_goes h;
    }

-- ---- the form

fewer : {X : Type 0} (p : X → Bool) (xs : List X) → length (filter p xs) ≤ length xs
fewer p [] = omega arith
fewer p (x ∷ xs) =
    elim (p x) as (λ b. length (cond b (x ∷ filter p xs) (filter p xs)) ≤ length (x ∷ xs)) [
      | true ↦ omega (arith, fewer p xs)
      | false ↦ omega (arith, fewer p xs)
    ]

all_fewer : {X : Type 0} (q p : X → Bool) (xs : List X) → list_all q xs ≡ true → list_all q (filter p xs) ≡ true
all_fewer q p [] e = refl
all_fewer q p (x ∷ xs) e =
    let both = and_parts (q x) (list_all q xs) e in
    elim (p x) as (λ b. list_all q (cond b (x ∷ filter p xs) (filter p xs)) ≡ true) [
      | true ↦ and_from (q x) (list_all q (filter p xs)) both.0 (all_fewer q p xs both.1)
      | false ↦ all_fewer q p xs both.1
    ]

less_from : (r : Ordering) → is_lt r ≡ true → r ≡ Less
less_from Less e = refl
less_from Equal e = absurd (cc)
less_from Greater e = absurd (cc)

before_through : (a b c : Bound) → key_before a b ≡ true → key_before b c ≡ true → key_before a c ≡ true
before_through a b c e f =
    ap is_lt (sum_total.trans a.key b.key c.key (less_from (sum_cmp a.key b.key) e) (less_from (sum_cmp b.key c.key) f))

-- bounds without the second, and without the first, ascend
skip_second : (a b : Bound) (bs : List Bound) → keys_ascend (a ∷ b ∷ bs) ≡ true → keys_ascend (a ∷ bs) ≡ true
skip_second a b [] e = refl
skip_second a b (c ∷ cs) e =
    let p = and_parts (key_before a b) (keys_ascend (b ∷ c ∷ cs)) e in
    let q = and_parts (key_before b c) (keys_ascend (c ∷ cs)) p.1 in
    and_from (key_before a c) (keys_ascend (c ∷ cs)) (before_through a b c p.0 q.0) q.1

skip_first : (a : Bound) (bs : List Bound) → keys_ascend (a ∷ bs) ≡ true → keys_ascend bs ≡ true
skip_first a [] e = refl
skip_first a (b ∷ bs) e = (and_parts (key_before a b) (keys_ascend (b ∷ bs)) e).1

ascend_after : (p : Bound → Bool) (a : Bound) (bs : List Bound) → keys_ascend (a ∷ bs) ≡ true → keys_ascend (a ∷ filter p bs) ≡ true
ascend_after p a [] e = refl
ascend_after p a (b ∷ bs) e =
    let both = and_parts (key_before a b) (keys_ascend (b ∷ bs)) e in
    elim (p b) as (λ t. keys_ascend (a ∷ cond t (b ∷ filter p bs) (filter p bs)) ≡ true) [
      | true ↦ and_from (key_before a b) (keys_ascend (b ∷ filter p bs)) both.0 (ascend_after p b bs both.1)
      | false ↦ ascend_after p a bs (skip_second a b bs e)
    ]

ascend_fewer : (p : Bound → Bool) (bs : List Bound) → keys_ascend bs ≡ true → keys_ascend (filter p bs) ≡ true
ascend_fewer p [] e = refl
ascend_fewer p (b ∷ bs) e =
    elim (p b) as (λ t. keys_ascend (cond t (b ∷ filter p bs) (filter p bs)) ≡ true) [
      | true ↦ ascend_after p b bs e
      | false ↦ ascend_fewer p bs (skip_first b bs e)
    ]

-- bounds that stay are those of a predicate
pub bounds_stay : (p : Bound → Bool) (bs : List Bound) → are_bounds bs ≡ true → are_bounds (filter p bs) ≡ true
bounds_stay p bs e =
    let few = and_parts (nat_le (length bs) most_bounds) (keys_ascend bs && are_formed bs) e in
    let both = and_parts (keys_ascend bs) (are_formed bs) few.1 in
    let room = leb-true (length bs) most_bounds few.0 in
    and_from (nat_le (length (filter p bs)) most_bounds) (keys_ascend (filter p bs) && are_formed (filter p bs))
    (le-leb (length (filter p bs)) most_bounds (omega (arith, room, fewer p bs)))
    (and_from (keys_ascend (filter p bs)) (are_formed (filter p bs)) (ascend_fewer p bs both.0) (all_fewer (λ b. are_values b.set) p bs both.1))

-- as many registers are told of
pub as_many : (hs ts : List (Option PlainSum)) → length (weaker_registers hs ts) ≡ length ts
as_many hs [] = refl
as_many [] (t ∷ ts) = ap suc (as_many [] ts)
as_many (h ∷ hs) (t ∷ ts) = ap suc (as_many hs ts)
