-- What stands in a list.
use Rattle.std.proofs.Common.{◌≡◌, ◌<◌, ◌⊎◌, ℕ, zero, suc, List, [], ◌∷◌, ◌++◌, length, get_or, refl, sym, inl, inr, arith}
use Rattle.std.specs.List.{Contains}
use Rattle.lift_graph.specs.Search.{IsMember}

pub member_left : {A : Type 0} (x : A) (xs ys : List A) → IsMember x xs → IsMember x (xs ++ ys)
member_left x [] ys h = absurd h
member_left x (y ∷ xs) ys h = elim h as (λ _. IsMember x ((y ∷ xs) ++ ys)) [ inl e ↦ inl e | inr r ↦ inr (member_left x xs ys r) ]

pub member_right : {A : Type 0} (x : A) (xs ys : List A) → IsMember x ys → IsMember x (xs ++ ys)
member_right x [] ys h = h
member_right x (y ∷ xs) ys h = inr (member_right x xs ys h)

pub member_last : {A : Type 0} (x : A) (xs : List A) → IsMember x (xs ++ x ∷ [])
member_last x xs = member_right x xs (x ∷ []) (inl refl)

pub member_cases : {A : Type 0} (x y : A) (xs : List A) → IsMember x (xs ++ y ∷ []) → IsMember x xs ⊎ (x ≡ y)
member_cases x y [] h = elim h as (λ _. IsMember x [] ⊎ (x ≡ y)) [ inl e ↦ inr (sym e) | inr r ↦ absurd r ]
member_cases x y (z ∷ zs) h = elim h as (λ _. IsMember x (z ∷ zs) ⊎ (x ≡ y)) [ inl e ↦ inl (inl e) | inr r ↦ elim (member_cases x y zs r) as (λ _. IsMember x (z ∷ zs) ⊎ (x ≡ y)) [ inl i ↦ inl (inr i) | inr e ↦ inr e ] ]

pub contains_from : {A : Type 0} (x : A) (xs : List A) → IsMember x xs → Contains xs x
contains_from x [] h = absurd h
contains_from x (y ∷ ys) h = elim h as (λ _. Contains (y ∷ ys) x) [ inl e ↦ (0, omega arith, e) | inr r ↦ (let c = contains_from x ys r in (suc c.0, omega (arith, c.1), c.2)) ]

pub member_from : {A : Type 0} (x : A) (xs : List A) (k : ℕ) → k < length xs → get_or xs k x ≡ x → IsMember x xs
member_from x [] k l e = absurd (omega arith)
member_from x (y ∷ ys) zero l e = inl e
member_from x (y ∷ ys) (suc k) l e = inr (member_from x ys k (omega arith) e)

pub contains_more : {A : Type 0} (xs : List A) (y x : A) → Contains xs x → Contains (xs ++ y ∷ []) x
contains_more xs y x c = contains_from x (xs ++ y ∷ []) (member_left x xs (y ∷ []) (member_from x xs c.0 c.1 c.2))

pub contains_last : {A : Type 0} (xs : List A) (x : A) → Contains (xs ++ x ∷ []) x
contains_last xs x = contains_from x (xs ++ x ∷ []) (member_last x xs)
