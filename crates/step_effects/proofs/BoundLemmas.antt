-- Where a condition says nothing; one more bound of a slice; and that ranges keep their ends in order.
use Rattle.std.proofs.Common.{◌≡◌, ℕ, ◌+◌, ◌<◌, Bool, true, false, List, [], ◌∷◌, drop, length, Option, Some, None, refl, sym, ap, ◌∙◌, slice_index_or}
use Rattle.std.specs.Prelude.{if◌then◌else◌, IsTrue, nat_le, max, min}
use Rattle.std.specs.declared.cmp.Ordering.{Ordering}
use Rattle.std.specs.declared.cmp.Ordering.TheVariants.{Less, Equal, Greater}
use Rattle.std.proofs.lemmas.Bool.{and_parts, and_from}
use Rattle.std.proofs.lemmas.List.{drop_more}
use Rattle.sym_terms.specs.Plain.{PlainSum}
use Rattle.sym_terms.specs.Order.{sum_cmp}
use Rattle.predicates.specs.declared.bound.Values.{Values}
use Rattle.predicates.specs.declared.bound.Values.TheVariants.{Range, OneOf}
use Rattle.predicates.specs.declared.bound.Bound.{Bound}
use Rattle.step_rules.specs.Bounds.{with_bound_if, inserted, met}
use Rattle.step_values.specs.Ordered.{is_ordered, are_ordered}

pub no_values : (key : Option PlainSum) (bounds : List Bound) → with_bound_if key None bounds ≡ bounds
no_values None bounds = refl
no_values (Some key) bounds = refl

-- the intersection of two ranges has its ends in order, where it is taken
if_ordered : (t : Bool) (low high from to : ℕ) → nat_le low high ≡ true → nat_le from to ≡ t → is_ordered (if t then Range from to else Range low high) ≡ true
if_ordered true low high from to e f = f
if_ordered false low high from to e f = e

met_ordered : (old new : Values) → is_ordered old ≡ true → is_ordered new ≡ true → is_ordered (met old new) ≡ true
met_ordered (Range low high) (Range least most) e f = if_ordered (nat_le (max low least) (min high most)) low high (max low least) (min high most) e refl
met_ordered (Range low high) (OneOf numbers) e f = refl
met_ordered (OneOf numbers) new e f = refl

one_ordered : (room : Bool) (key : PlainSum) (set : Values) (bs : List Bound) → is_ordered set ≡ true → are_ordered bs ≡ true → are_ordered (if room then record { key = key; set = set } ∷ bs else bs) ≡ true
one_ordered true key set bs e h = and_from (is_ordered set) (are_ordered bs) e h
one_ordered false key set bs e h = h

pub inserted_ordered : (room : Bool) (key : PlainSum) (set : Values) (bs : List Bound) → IsTrue (is_ordered set) → IsTrue (are_ordered bs) → IsTrue (are_ordered (inserted room key set bs))
inserted_ordered room key set [] e h = one_ordered room key set [] e refl
inserted_ordered room key set (b ∷ bs) e h =
    let p = and_parts (is_ordered b.set) (are_ordered bs) h in
    elim (sum_cmp key b.key) as (λ o. are_ordered (elim o as (λ o. List Bound) [
      | Less ↦ if room then record { key = key; set = set } ∷ b ∷ bs else b ∷ bs
      | Equal ↦ record { key = b.key; set = met b.set set } ∷ bs
      | Greater ↦ b ∷ inserted room key set bs
    ]) ≡ true) [
      | Less ↦ one_ordered room key set (b ∷ bs) e h
      | Equal ↦ and_from (is_ordered (met b.set set)) (are_ordered bs) (met_ordered b.set set p.0 e) p.1
      | Greater ↦ and_from (is_ordered b.set) (are_ordered (inserted room key set bs)) p.0 (inserted_ordered room key set bs e p.1)
    ]

module _ (room : Bool) (key : PlainSum) (set : Values) (xs : List Bound) (i : ℕ) (x : Bound) (at_x : x ≡ slice_index_or xs i x) (in_x : i < length xs) where
  abbrev by_order : Ordering → List Bound → List Bound
  by_order o rest = elim o as (λ o. List Bound) [
    | Less ↦ if room then record { key = key; set = set } ∷ x ∷ rest else x ∷ rest
    | Equal ↦ record { key = x.key; set = met x.set set } ∷ rest
    | Greater ↦ x ∷ inserted room key set rest
  ]

  pub inserted_at : (o : Ordering) → sum_cmp key x.key ≡ o → inserted room key set (drop i xs) ≡ by_order o (drop (i + 1) xs)
  inserted_at o e = ap (inserted room key set) (drop_more xs i x in_x ∙ ap (λ y. y ∷ drop (i + 1) xs) (sym at_x)) ∙ ap (λ o. by_order o (drop (i + 1) xs)) e
