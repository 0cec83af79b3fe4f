-- What stands at a place of a list.
use Rattle.std.proofs.Common.{◌≡◌, ℕ, ◌+◌, ◌<◌, ◌≤◌, zero, suc, List, [], ◌∷◌, None, length, get_or, sym, ◌∙◌, ap, subst, arith, unwrap_or, refl, IfSome}
use Rattle.std.specs.List.{slice_get, enumerate_from, zip}
use Rattle.std.proofs.lemmas.Option.{unwrap_or-slice_get}
use Rattle.std.proofs.lemmas.List.FromFn.{length-enumerate_from, get_or-enumerate_from}
use Rattle.graph_data.specs.Parts.{Each}

-- past the end of a list the default stands
pub get_or-past : {A : Type 0} (xs : List A) (i : ℕ) (d : A) → slice_get xs i ≡ None → get_or xs i d ≡ d
get_or-past xs i d e = sym (unwrap_or-slice_get xs i d) ∙ ap (λ o. unwrap_or o d) e

-- a fact of each element is one of the element at a place
each_get : {X : Type 0} (P : X → Type 0) (xs : List X) (i : ℕ) (d : X) → Each P xs → i < length xs → P (get_or xs i d)
each_get P [] i d each h = absurd (omega arith)
each_get P (x ∷ xs) zero d each h = each.0
each_get P (x ∷ xs) (suc i) d each h = let k : i < length xs = omega arith in each_get P xs i d each.1 k

pub each_at : {X : Type 0} (P : X → Type 0) {xs ys : List X} {i : ℕ} {x : X} → Each P xs → ys ≡ xs → i < length ys → x ≡ get_or ys i x → P x
each_at P {xs = xs} {ys = ys} {i = i} {x = x} each same h is =
    subst P (sym is) (each_get P ys i x (subst (λ zs. Each P zs) (sym same) each) h)

-- an element with its place stands there among the elements with their places
pub numbered_within : {X : Type 0} {xs ys : List X} {i : ℕ} → ys ≡ xs → i < length ys → i < length (enumerate_from 0 xs)
numbered_within {xs = xs} {i = i} same h = rw length-enumerate_from (subst (λ zs. i < length zs) same h)

pub numbered_past : {X : Type 0} {xs ys : List X} {i : ℕ} → ys ≡ xs → length ys ≤ i → length (enumerate_from 0 xs) ≤ i
numbered_past {xs = xs} {i = i} same h = rw length-enumerate_from (subst (λ zs. length zs ≤ i) same h)

pub numbered_at : {X : Type 0} {xs ys : List X} {i : ℕ} {x : X} → ys ≡ xs → i < length ys → x ≡ get_or ys i x → (i, x) ≡ get_or (enumerate_from 0 xs) i (i, x)
numbered_at {xs = xs} {i = i} {x = x} same h is =
    let within : i < length xs = subst (λ zs. i < length zs) same h in
    let place : 0 + i ≡ i = omega arith in
    sym (get_or-enumerate_from 0 xs i (i, x) within ∙ ap (λ n. (n, get_or xs i x)) place ∙ ap (λ y. (i, y)) (sym (is ∙ ap (λ zs. get_or zs i x) same)))

-- a list of pairs is as long as the second list, where the two are so
pub length_zip : {A B : Type 0} (xs : List A) (ys : List B) → length ys ≡ length xs → length (zip xs ys) ≡ length ys
length_zip [] [] same = refl
length_zip [] (y ∷ ys) same = absurd (omega (arith, same))
length_zip (x ∷ xs) [] same = refl
length_zip (x ∷ xs) (y ∷ ys) same = let rest = length_zip xs ys (omega (arith, same)) in omega (arith, rest)

zipped : {A B : Type 0} (P : A → Type 0) (xs : List A) (ys : List B) (i : ℕ) (y : B) → length ys ≡ length xs → i < length ys → y ≡ get_or ys i y → IfSome (slice_get xs i) P
    → (x : A) × (((x, y) ≡ get_or (zip xs ys) i (x, y)) × P x)
zipped P [] [] i y same lt is some = absurd (omega arith)
zipped P [] (z ∷ ys) i y same lt is some = absurd (omega (arith, same))
zipped P (x ∷ xs) [] i y same lt is some = absurd (omega arith)
zipped P (x ∷ xs) (z ∷ ys) zero y same lt is some = (x, (ap (λ w. (x, w)) is, some))
zipped P (x ∷ xs) (z ∷ ys) (suc i) y same lt is some = zipped P xs ys i y (omega (arith, same)) (omega (arith, lt)) is some

-- what is paired with the element at a place of the second list
pub paired : {A B : Type 0} (P : A → Type 0) (xs : List A) (ys : List B) (i : ℕ) (y : B) → length ys ≡ length xs → i < length ys → y ≡ get_or ys i y → IfSome (slice_get xs i) P
    → (x : A) × (((i, (x, y)) ≡ get_or (enumerate_from 0 (zip xs ys)) i (i, (x, y))) × P x)
paired P xs ys i y same lt is some =
    let at = zipped P xs ys i y same lt is some in
    (at.0, (numbered_at {xs = zip xs ys} {ys = zip xs ys} {i = i} {x = (at.0, y)} refl (rw (length_zip xs ys same) lt) at.1.0, at.1.1))

-- pairs with their places
pub paired_within : {A B : Type 0} (xs : List A) (ys : List B) (i : ℕ) → length ys ≡ length xs → i < length ys → i < length (enumerate_from 0 (zip xs ys))
paired_within xs ys i same lt = numbered_within {xs = zip xs ys} {ys = zip xs ys} {i = i} refl (rw (length_zip xs ys same) lt)

pub paired_past : {A B : Type 0} (xs : List A) (ys : List B) (i : ℕ) → length ys ≡ length xs → length ys ≤ i → length (enumerate_from 0 (zip xs ys)) ≤ i
paired_past xs ys i same past = numbered_past {xs = zip xs ys} {ys = zip xs ys} {i = i} refl (rw (length_zip xs ys same) past)
