-- Bounds of a predicate stay bounds of a predicate where one is added; and where a condition says nothing.
use Rattle.std.proofs.Common.{◌≡◌, ℕ, ◌+◌, ◌≤◌, Bool, true, false, ◌&&◌, List, [], ◌∷◌, length, Option, Some, None, refl, ap, ◌∙◌, arith}
use Rattle.std.specs.Prelude.{if◌then◌else◌, IsTrue, nat_le, nat_lt, max, min}
use Rattle.std.specs.declared.cmp.Ordering.{Ordering}
use Rattle.std.specs.declared.cmp.Ordering.TheVariants.{Less, Equal, Greater}
use Rattle.std.specs.Ordering.{is_lt, ordering_reverse}
use Rattle.std.proofs.lemmas.Bool.{and_parts, and_from, leb-true, le-leb}
use Rattle.std.proofs.lemmas.Bool.Decides.{nat_tests}
use Rattle.sym_terms.specs.Plain.{PlainSum}
use Rattle.sym_terms.specs.Order.{sum_cmp}
use Rattle.sym_terms.specs.Codes.{sum_total}
use Rattle.predicates.specs.Limits.{most_bounds}
use Rattle.predicates.specs.Bounds.{are_bounds, are_formed, are_values, keys_ascend, key_before}
use Rattle.predicates.specs.declared.bound.Values.{Values}
use Rattle.predicates.specs.declared.bound.Values.TheVariants.{Range, OneOf}
use Rattle.predicates.specs.declared.bound.Bound.{Bound}
use Rattle.step_rules.specs.Bounds.{with_bound_if, with_bound, inserted, met}

-- values that say nothing add nothing
pub no_values : (key : Option PlainSum) (bounds : List Bound) → with_bound_if key None bounds ≡ bounds
no_values None bounds = refl
no_values (Some key) bounds = refl

-- ---- values that meet

met_range : (t : Bool) (low high from to : ℕ) → nat_le low high ≡ true → nat_le from to ≡ t → are_values (if t then Range from to else Range low high) ≡ true
met_range true low high from to e f = f
met_range false low high from to e f = e

met_formed : (old new : Values) → are_values old ≡ true → are_values new ≡ true → are_values (met old new) ≡ true
met_formed (Range low high) (Range least most) e f =
    met_range (nat_le (max low least) (min high most)) low high (max low least) (min high most) e refl
met_formed (Range low high) (OneOf numbers) e f = f
met_formed (OneOf numbers) new e f = e

-- ---- one more bound

after : (a b : PlainSum) → sum_cmp a b ≡ Greater → is_lt (sum_cmp b a) ≡ true
after a b e = ap is_lt (sum_total.antisymm b a ∙ ap ordering_reverse e)

-- the order tells of the first key alone
same_key : (b : Bound) (set : Values) (bs : List Bound) → keys_ascend (b ∷ bs) ≡ true → keys_ascend (record { key = b.key; set = set } ∷ bs) ≡ true
same_key b set [] e = refl
same_key b set (c ∷ cs) e = e

tail_ascends : (b : Bound) (bs : List Bound) → keys_ascend (b ∷ bs) ≡ true → keys_ascend bs ≡ true
tail_ascends b [] e = refl
tail_ascends b (c ∷ cs) e = (and_parts (key_before b c) (keys_ascend (c ∷ cs)) e).1

module _ (room : Bool) (key : PlainSum) (set : Values) where
  -- the bound that comes
  abbrev one : Bound
  one = record { key = key; set = set }

  -- what comes in front of others, where there is room
  abbrev fronted : List Bound → List Bound
  fronted bs = if room then one ∷ bs else bs

  -- a bound in its place, by how its key lies to the first
  abbrev by_order : Ordering → Bound → List Bound → List Bound
  by_order o b bs = elim o as (λ o. List Bound) [
    | Less ↦ fronted (b ∷ bs)
    | Equal ↦ record { key = b.key; set = met b.set set } ∷ bs
    | Greater ↦ b ∷ inserted room key set bs
  ]

  -- one more, where there is room
  abbrev extra : Bool → ℕ
  extra true = 1
  extra false = 0

  few_fronted : (t : Bool) (bs : List Bound) → length (if t then one ∷ bs else bs) ≤ length bs + extra t
  few_fronted true bs = omega arith
  few_fronted false bs = omega arith

  few : (bs : List Bound) → length (inserted room key set bs) ≤ length bs + extra room
  few [] = few_fronted room []
  few (b ∷ bs) =
      elim (sum_cmp key b.key) as (λ o. length (by_order o b bs) ≤ length (b ∷ bs) + extra room) [
        | Less ↦ few_fronted room (b ∷ bs)
        | Equal ↦ omega arith
        | Greater ↦ omega (arith, few bs)
      ]

  ascend_fronted : (b : Bound) (bs : List Bound) → key_before one b ≡ true → keys_ascend (b ∷ bs) ≡ true → (t : Bool) → keys_ascend (if t then one ∷ b ∷ bs else b ∷ bs) ≡ true
  ascend_fronted b bs h e true = and_from (key_before one b) (keys_ascend (b ∷ bs)) h e
  ascend_fronted b bs h e false = e

  ascend_between : (a b : Bound) (bs : List Bound) → key_before a one ≡ true → key_before one b ≡ true → keys_ascend (a ∷ b ∷ bs) ≡ true
      → (t : Bool) → keys_ascend (a ∷ (if t then one ∷ b ∷ bs else b ∷ bs)) ≡ true
  ascend_between a b bs g h e true =
      and_from (key_before a one) (keys_ascend (one ∷ b ∷ bs)) g (ascend_fronted b bs h (and_parts (key_before a b) (keys_ascend (b ∷ bs)) e).1 true)
  ascend_between a b bs g h e false = e

  ascend_last : (a : Bound) → key_before a one ≡ true → (t : Bool) → keys_ascend (a ∷ (if t then one ∷ [] else [])) ≡ true
  ascend_last a g true = and_from (key_before a one) true g refl
  ascend_last a g false = refl

  ascend_after : (a : Bound) (bs : List Bound) → key_before a one ≡ true → keys_ascend (a ∷ bs) ≡ true → keys_ascend (a ∷ inserted room key set bs) ≡ true
  ascend_after a [] g e = ascend_last a g room
  ascend_after a (b ∷ bs) g e =
      let both = and_parts (key_before a b) (keys_ascend (b ∷ bs)) e in
      (elim (sum_cmp key b.key) as (λ o. sum_cmp key b.key ≡ o → keys_ascend (a ∷ by_order o b bs) ≡ true) [
        | Less ↦ λ is. ascend_between a b bs g (ap is_lt is) e room
        | Equal ↦ λ is. and_from (key_before a b) (keys_ascend (record { key = b.key; set = met b.set set } ∷ bs)) both.0 (same_key b (met b.set set) bs both.1)
        | Greater ↦ λ is. and_from (key_before a b) (keys_ascend (b ∷ inserted room key set bs)) both.0 (ascend_after b bs (after key b.key is) both.1)
      ]) refl

  ascend_alone : (t : Bool) → keys_ascend (if t then one ∷ [] else []) ≡ true
  ascend_alone true = refl
  ascend_alone false = refl

  ascend : (bs : List Bound) → keys_ascend bs ≡ true → keys_ascend (inserted room key set bs) ≡ true
  ascend [] e = ascend_alone room
  ascend (b ∷ bs) e =
      (elim (sum_cmp key b.key) as (λ o. sum_cmp key b.key ≡ o → keys_ascend (by_order o b bs) ≡ true) [
        | Less ↦ λ is. ascend_fronted b bs (ap is_lt is) e room
        | Equal ↦ λ is. same_key b (met b.set set) bs e
        | Greater ↦ λ is. ascend_after b bs (after key b.key is) e
      ]) refl

  module _ (is : are_values set ≡ true) where
    formed_fronted : (bs : List Bound) → are_formed bs ≡ true → (t : Bool) → are_formed (if t then one ∷ bs else bs) ≡ true
    formed_fronted bs e true = and_from (are_values set) (are_formed bs) is e
    formed_fronted bs e false = e

    formed : (bs : List Bound) → are_formed bs ≡ true → are_formed (inserted room key set bs) ≡ true
    formed [] e = formed_fronted [] e room
    formed (b ∷ bs) e =
        let both = and_parts (are_values b.set) (are_formed bs) e in
        elim (sum_cmp key b.key) as (λ o. are_formed (by_order o b bs) ≡ true) [
          | Less ↦ formed_fronted (b ∷ bs) e room
          | Equal ↦ and_from (are_values (met b.set set)) (are_formed bs) (met_formed b.set set both.0 is) both.1
          | Greater ↦ and_from (are_values b.set) (are_formed (inserted room key set bs)) both.0 (formed bs both.1)
        ]

-- where there is room for one more
enough : (t : Bool) (n m : ℕ) → nat_lt n most_bounds ≡ t → n ≤ most_bounds → m ≤ n + (if t then 1 else 0) → m ≤ most_bounds
enough true n m e h g = grind (arith, nat_tests)
enough false n m e h g = omega arith

as_extra : (t : Bool) (key : PlainSum) (set : Values) (n m : ℕ) → m ≤ n + extra t key set t → m ≤ n + (if t then 1 else 0)
as_extra true key set n m h = h
as_extra false key set n m h = h

-- bounds with one more are those of a predicate
pub bounds_with : (key : PlainSum) (set : Values) (bs : List Bound) → IsTrue (are_values set) → IsTrue (are_bounds bs) → IsTrue (are_bounds (with_bound key set bs))
unfolding with_bound
bounds_with key set bs is e =
    let room = nat_lt (length bs) 16 in
    let count = and_parts (nat_le (length bs) most_bounds) (keys_ascend bs && are_formed bs) e in
    let rest = and_parts (keys_ascend bs) (are_formed bs) count.1 in
    let all = inserted room key set bs in
    and_from (nat_le (length all) most_bounds) (keys_ascend all && are_formed all)
    (le-leb (length all) most_bounds (enough room (length bs) (length all) refl (leb-true (length bs) most_bounds count.0) (as_extra room key set (length bs) (length all) (few room key set bs))))
    (and_from (keys_ascend all) (are_formed all) (ascend room key set bs rest.0) (formed room key set is bs rest.1))

-- bounds of a predicate have values in form
pub bounds_formed : (bs : List Bound) → IsTrue (are_bounds bs) → IsTrue (are_formed bs)
bounds_formed bs e =
    let count = and_parts (nat_le (length bs) most_bounds) (keys_ascend bs && are_formed bs) e in
    (and_parts (keys_ascend bs) (are_formed bs) count.1).1
