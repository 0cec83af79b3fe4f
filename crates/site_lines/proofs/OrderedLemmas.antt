-- Where one more item comes in an ascending list.
use Rattle.std.proofs.Common.{◌≡◌, ◌≤◌, ◌+◌, ℕ, zero, suc, Bool, true, false, List, [], ◌∷◌, ◌++◌, length, take, Some, None, refl, ap, sym, ◌∙◌, arith}
use Rattle.std.specs.Prelude.{if◌then◌else◌, cond, filter, map, not, nat_lt, slice_get, unwrap_or}
use Rattle.std.specs.Option.{option_map_or}
use Rattle.std.specs.List.{insert, list_all, position, position_or_len}
use Rattle.std.specs.Ordering.{is_eq, is_gt, is_lt}
use Rattle.std.proofs.lemmas.Bool.{and_from, and_parts, ltb-false}
use Rattle.predicates.specs.Bounds.{in_order}
use Rattle.std.specs.declared.cmp.Ordering.{Ordering}
use Rattle.std.specs.declared.cmp.Ordering.TheVariants.{Less, Equal, Greater}
use Rattle.site_lines.specs.Ordered.{with_item, with_items}

-- how many items of a list an item is above, from the first on
abbrev pub place_in : {A : Type 0} → (A → A → Ordering) → A → List A → ℕ
place_in cmp x ys = position_or_len (λ y. not (is_gt (cmp x y))) ys

-- whether an item stands at a place
abbrev pub is_item_at : {A : Type 0} → (A → A → Ordering) → A → List A → ℕ → Bool
is_item_at cmp x ys k = option_map_or (λ y. is_eq (cmp x y)) (slice_get ys k) false

-- the place is at most the length
pub place_within : {A : Type 0} (cmp : A → A → Ordering) (x : A) (ys : List A) → place_in cmp x ys ≤ length ys
place_within cmp x [] = omega arith
place_within cmp x (y ∷ ys) =
    elim (not (is_gt (cmp x y))) as (λ t. cond (not t) (1 + place_in cmp x ys) 0 ≤ suc (length ys)) [
      | true ↦ omega arith
      | false ↦ omega (arith, place_within cmp x ys)
    ]

-- the place of the first item that one isn't above, else the length
pub place_found : {A : Type 0} (p : A → Bool) (xs : List A) → position_or_len p xs ≤ length xs → unwrap_or (position p xs) (length xs) ≡ position_or_len p xs
place_found p xs within =
    (elim (nat_lt (position_or_len p xs) (length xs)) as (λ t. nat_lt (position_or_len p xs) (length xs) ≡ t → unwrap_or (cond t (Some (position_or_len p xs)) None) (length xs) ≡ position_or_len p xs) [
      | true ↦ λ e. refl
      | false ↦ λ e. let h : length xs ≤ position_or_len p xs = ltb-false _ _ e in omega (arith, within)
    ]) refl

put_after : {A : Type 0} (x y : A) (ys : List A) (k : ℕ) (o : Bool) → y ∷ (if o then ys else insert ys k x) ≡ (if o then y ∷ ys else y ∷ insert ys k x)
put_after x y ys k true = refl
put_after x y ys k false = refl

-- a list with one more item, by the order of the item and the first of the list
abbrev put_by : {A : Type 0} → (A → A → Ordering) → A → A → Ordering → List A → List A
put_by {A} cmp x y o ys = elim o as (λ o. List A) [ Less ↦ x ∷ y ∷ ys | Equal ↦ y ∷ ys | Greater ↦ y ∷ with_item cmp x ys ]

put_first : {A : Type 0} (cmp : A → A → Ordering) (x y : A) (ys : List A) (o : Ordering) → cmp x y ≡ o → with_item cmp x (y ∷ ys) ≡ put_by cmp x y o ys
put_first cmp x y ys o e = ap (λ (r : Ordering). put_by cmp x y r ys) e

abbrev put_at : {A : Type 0} → (A → A → Ordering) → A → List A → ℕ → List A
put_at cmp x ys k = if is_item_at cmp x ys k then ys else insert ys k x

put_by_order : {A : Type 0} (cmp : A → A → Ordering) (x y : A) (ys : List A) → with_item cmp x ys ≡ put_at cmp x ys (place_in cmp x ys) → (o : Ordering) → cmp x y ≡ o
    → with_item cmp x (y ∷ ys) ≡ put_at cmp x (y ∷ ys) (place_in cmp x (y ∷ ys))
put_by_order cmp x y ys h Less e =
    put_first cmp x y ys Less e
    ∙ sym (ap (put_at cmp x (y ∷ ys)) (ap (λ o. cond (not (not (is_gt o))) (1 + place_in cmp x ys) 0) e) ∙ ap (λ o. if is_eq o then y ∷ ys else x ∷ y ∷ ys) e)
put_by_order cmp x y ys h Equal e =
    put_first cmp x y ys Equal e
    ∙ sym (ap (put_at cmp x (y ∷ ys)) (ap (λ o. cond (not (not (is_gt o))) (1 + place_in cmp x ys) 0) e) ∙ ap (λ o. if is_eq o then y ∷ ys else x ∷ y ∷ ys) e)
put_by_order cmp x y ys h Greater e =
    let next : 1 + place_in cmp x ys ≡ suc (place_in cmp x ys) = omega arith in
    put_first cmp x y ys Greater e ∙ ap (λ zs. y ∷ zs) h ∙ put_after x y ys (place_in cmp x ys) (is_item_at cmp x ys (place_in cmp x ys))
    ∙ sym (ap (put_at cmp x (y ∷ ys)) (ap (λ o. cond (not (not (is_gt o))) (1 + place_in cmp x ys) 0) e ∙ next))

-- a list with one more item: as it is where that stands at its place, else with it there
pub with_item_at : {A : Type 0} (cmp : A → A → Ordering) (x : A) (ys : List A) → with_item cmp x ys ≡ put_at cmp x ys (place_in cmp x ys)
with_item_at cmp x [] = refl
with_item_at cmp x (y ∷ ys) = put_by_order cmp x y ys (with_item_at cmp x ys) (cmp x y) refl

-- the items of two lists in turn
pub with_items_append : {A : Type 0} (cmp : A → A → Ordering) (xs ys zs : List A) → with_items cmp xs (ys ++ zs) ≡ with_items cmp (with_items cmp xs ys) zs
with_items_append cmp xs [] zs = refl
with_items_append cmp xs (y ∷ ys) zs = with_items_append cmp (with_item cmp y xs) ys zs

-- what a list gives is what its first item gives, and then what the others give
pub passed_first : {A B : Type 0} (f : A → B) (test : A → Bool) (x : A) (xs : List A) → map f (filter test (x ∷ xs)) ≡ map f (filter test (x ∷ [])) ++ map f (filter test xs)
passed_first f test x xs =
    elim (test x) as (λ b. map f (cond b (x ∷ filter test xs) (filter test xs)) ≡ map f (cond b (x ∷ []) []) ++ map f (filter test xs)) [
      | true ↦ refl
      | false ↦ refl
    ]

-- each item passes where those of both lists do
pub all_with_item : {A : Type 0} (cmp : A → A → Ordering) (p : A → Bool) (x : A) (ys : List A) → p x ≡ true → list_all p ys ≡ true → list_all p (with_item cmp x ys) ≡ true
all_with_item cmp p x [] h k = and_from (p x) true h refl
all_with_item cmp p x (y ∷ ys) h k =
    let parts = and_parts (p y) (list_all p ys) k in
    rw (put_first cmp x y ys (cmp x y) refl)
    (elim (cmp x y) as (λ o. list_all p (put_by cmp x y o ys) ≡ true) [
      | Less ↦ and_from (p x) (list_all p (y ∷ ys)) h k
      | Equal ↦ k
      | Greater ↦ and_from (p y) (list_all p (with_item cmp x ys)) parts.0 (all_with_item cmp p x ys h parts.1)
    ])

pub all_with_items : {A : Type 0} (cmp : A → A → Ordering) (p : A → Bool) (xs ys : List A) → list_all p xs ≡ true → list_all p ys ≡ true → list_all p (with_items cmp xs ys) ≡ true
all_with_items cmp p xs [] h k = h
all_with_items cmp p xs (y ∷ ys) h k =
    let parts = and_parts (p y) (list_all p ys) k in
    all_with_items cmp p (with_item cmp y xs) ys (all_with_item cmp p y xs parts.0 h) parts.1

-- whether one item stands before another
abbrev pub is_before : {A : Type 0} → (A → A → Ordering) → A → A → Bool
is_before cmp x y = is_lt (cmp x y)

-- what isn't below or alike is above
abbrev pub TurnsRound : {A : Type 0} → (A → A → Ordering) → Type 0
TurnsRound {A} cmp = (x y : A) → cmp x y ≡ Greater → is_lt (cmp y x) ≡ true

front_first : {A : Type 0} (cmp : A → A → Ordering) → TurnsRound cmp → (x y z : A) (ys : List A) (o : Ordering) → cmp x y ≡ o → is_lt (cmp z x) ≡ true → is_lt (cmp z y) ≡ true → in_order (is_before cmp) (put_by cmp x y o ys) ≡ true → in_order (is_before cmp) (z ∷ put_by cmp x y o ys) ≡ true
front_first cmp turns x y z ys Less c zx zy k = and_from (is_lt (cmp z x)) (in_order (is_before cmp) (x ∷ y ∷ ys)) zx k
front_first cmp turns x y z ys Equal c zx zy k = and_from (is_lt (cmp z y)) (in_order (is_before cmp) (y ∷ ys)) zy k
front_first cmp turns x y z ys Greater c zx zy k = and_from (is_lt (cmp z y)) (in_order (is_before cmp) (y ∷ with_item cmp x ys)) zy k

order_first : {A : Type 0} (cmp : A → A → Ordering) → TurnsRound cmp → (x y : A) (ys : List A) (o : Ordering) → cmp x y ≡ o → in_order (is_before cmp) (y ∷ ys) ≡ true
    → ((z : A) → is_lt (cmp z x) ≡ true → in_order (is_before cmp) (z ∷ ys) ≡ true → in_order (is_before cmp) (z ∷ with_item cmp x ys) ≡ true) → in_order (is_before cmp) (put_by cmp x y o ys) ≡ true
order_first cmp turns x y ys Less c k more = and_from (is_lt (cmp x y)) (in_order (is_before cmp) (y ∷ ys)) (rw c refl) k
order_first cmp turns x y ys Equal c k more = k
order_first cmp turns x y ys Greater c k more = more y (turns x y c) k

-- what follows an item in order
order_rest : {A : Type 0} (cmp : A → A → Ordering) (y : A) (ys : List A) → in_order (is_before cmp) (y ∷ ys) ≡ true → in_order (is_before cmp) ys ≡ true
order_rest cmp y [] k = refl
order_rest cmp y (z ∷ zs) k = (and_parts (is_lt (cmp y z)) (in_order (is_before cmp) (z ∷ zs)) k).1

-- one more item after another keeps the order
order_after : {A : Type 0} (cmp : A → A → Ordering) → TurnsRound cmp → (x z : A) (ys : List A) → is_lt (cmp z x) ≡ true → in_order (is_before cmp) (z ∷ ys) ≡ true → in_order (is_before cmp) (z ∷ with_item cmp x ys) ≡ true
order_after cmp turns x z [] zx k = and_from (is_lt (cmp z x)) true zx refl
order_after cmp turns x z (y ∷ ys) zx k =
    let parts = and_parts (is_lt (cmp z y)) (in_order (is_before cmp) (y ∷ ys)) k in
    rw (put_first cmp x y ys (cmp x y) refl)
    (front_first cmp turns x y z ys (cmp x y) refl zx parts.0
    (order_first cmp turns x y ys (cmp x y) refl parts.1 (λ w wx wys. order_after cmp turns x w ys wx wys)))

-- one more item keeps the order
pub order_more : {A : Type 0} (cmp : A → A → Ordering) → TurnsRound cmp → (x : A) (ys : List A) → in_order (is_before cmp) ys ≡ true → in_order (is_before cmp) (with_item cmp x ys) ≡ true
order_more cmp turns x [] k = refl
order_more cmp turns x (y ∷ ys) k =
    rw (put_first cmp x y ys (cmp x y) refl)
    (order_first cmp turns x y ys (cmp x y) refl k (λ z zx zys. order_after cmp turns x z ys zx zys))

pub order_all : {A : Type 0} (cmp : A → A → Ordering) → TurnsRound cmp → (xs ys : List A) → in_order (is_before cmp) xs ≡ true → in_order (is_before cmp) (with_items cmp xs ys) ≡ true
order_all cmp turns xs [] k = k
order_all cmp turns xs (y ∷ ys) k = order_all cmp turns (with_item cmp y xs) ys (order_more cmp turns y xs k)

take_one : {A : Type 0} (cmp : A → A → Ordering) (n : ℕ) (x : A) → in_order (is_before cmp) (x ∷ take n []) ≡ true
take_one cmp zero x = refl
take_one cmp (suc n) x = refl

take_two : {A : Type 0} (cmp : A → A → Ordering) (n : ℕ) (x y : A) (ys : List A) → in_order (is_before cmp) (x ∷ y ∷ ys) ≡ true → in_order (is_before cmp) (take n (y ∷ ys)) ≡ true → in_order (is_before cmp) (x ∷ take n (y ∷ ys)) ≡ true
take_two cmp zero x y ys k h = refl
take_two cmp (suc n) x y ys k h = and_from (is_lt (cmp x y)) (in_order (is_before cmp) (y ∷ take n ys)) (and_parts (is_lt (cmp x y)) (in_order (is_before cmp) (y ∷ ys)) k).0 h

-- the first items are in order where all are
pub order_take : {A : Type 0} (cmp : A → A → Ordering) (n : ℕ) (xs : List A) → in_order (is_before cmp) xs ≡ true → in_order (is_before cmp) (take n xs) ≡ true
order_take cmp zero xs k = refl
order_take cmp (suc n) [] k = refl
order_take cmp (suc n) (x ∷ []) k = take_one cmp n x
order_take cmp (suc n) (x ∷ y ∷ ys) k = take_two cmp n x y ys k (order_take cmp n (y ∷ ys) (order_rest cmp x (y ∷ ys) k))
