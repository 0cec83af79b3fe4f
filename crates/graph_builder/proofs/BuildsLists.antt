-- Lists in order, one element after another, and what holds of each element.
use Rattle.std.proofs.Common.{◌≡◌, ℕ, Bool, true, List, [], ◌∷◌, ◌++◌, map, refl, ◌∙◌}
use Rattle.std.specs.Prelude.{nat_lt, ⊤}
use Rattle.std.specs.List.{flat_map, list_all}
use Rattle.std.proofs.lemmas.Bool.{and_parts, and_from, lt-ltb}
use Rattle.predicates.specs.Bounds.{in_order}
use Rattle.graph_data.specs.Parts.{Each, Ascends}
use Rattle.graph_builder.specs.Order.{extends_order}
use Rattle.graph_builder.proofs.PartialOrder.{extends_last}

-- an order that looks at a key of the second
pub extends_key : {A B C : Type 0} (before : A → C → Bool) (key : B → C) (xs : List A) (y : B) → extends_order (λ x z. before x (key z)) xs y ≡ extends_order before xs (key y)
extends_key before key [] y = refl
extends_key before key (x ∷ []) y = refl
extends_key before key (x ∷ z ∷ xs) y = extends_key before key (z ∷ xs) y

-- whether a list comes after another
abbrev pub Begins : {A : Type 0} → (A → A → Bool) → List A → List A → Type 0
Begins before done [] = ⊤
Begins before done (x ∷ xs) = extends_order before done x ≡ true

-- a list in order comes after none
pub begins_first : {A : Type 0} (before : A → A → Bool) (xs : List A) → Begins before [] xs
begins_first before [] = tt
begins_first before (x ∷ xs) = refl

-- the rest of a list in order comes after its first element
pub begins_next : {A : Type 0} (before : A → A → Bool) (done : List A) (x : A) (xs : List A) → in_order before (x ∷ xs) ≡ true → Begins before (done ++ x ∷ []) xs
begins_next before done x [] e = tt
begins_next before done x (y ∷ ys) e = extends_last before done x y ∙ (and_parts (before x y) (in_order before (y ∷ ys)) e).0

-- what is in order without its first element
pub in_order_rest : {A : Type 0} (before : A → A → Bool) (x : A) (xs : List A) → in_order before (x ∷ xs) ≡ true → in_order before xs ≡ true
in_order_rest before x [] e = refl
in_order_rest before x (y ∷ ys) e = (and_parts (before x y) (in_order before (y ∷ ys)) e).1

-- elements whose numbers ascend are in order
pub ascends_in_order : {A : Type 0} (key : A → ℕ) (xs : List A) → Ascends (map key xs) → in_order (λ x y. nat_lt (key x) (key y)) xs ≡ true
ascends_in_order key [] h = refl
ascends_in_order key (x ∷ []) h = refl
ascends_in_order key (x ∷ y ∷ ys) h =
    and_from (nat_lt (key x) (key y)) (in_order (λ x y. nat_lt (key x) (key y)) (y ∷ ys)) (lt-ltb (key x) (key y) h.0) (ascends_in_order key (y ∷ ys) h.1)

-- ---- each element

pub each_append : {A : Type 0} (P : A → Type 0) (xs ys : List A) → Each P xs → Each P ys → Each P (xs ++ ys)
each_append P [] ys h k = k
each_append P (x ∷ xs) ys h k = (h.0, each_append P xs ys h.1 k)

pub each_map : {A B : Type 0} (P : A → Type 0) (Q : B → Type 0) (f : A → B) (all : (x : A) → P x → Q (f x)) (xs : List A) → Each P xs → Each Q (map f xs)
each_map P Q f all [] h = tt
each_map P Q f all (x ∷ xs) h = (all x h.0, each_map P Q f all xs h.1)

pub each_flat : {A B : Type 0} (P : A → Type 0) (Q : B → Type 0) (f : A → List B) (all : (x : A) → P x → Each Q (f x)) (xs : List A) → Each P xs → Each Q (flat_map f xs)
each_flat P Q f all [] h = tt
each_flat P Q f all (x ∷ xs) h = each_append Q (f x) (flat_map f xs) (all x h.0) (each_flat P Q f all xs h.1)

pub each_from : {A : Type 0} (P Q : A → Type 0) (all : (x : A) → P x → Q x) (xs : List A) → Each P xs → Each Q xs
each_from P Q all [] h = tt
each_from P Q all (x ∷ xs) h = (all x h.0, each_from P Q all xs h.1)

pub each_both : {A : Type 0} (P Q : A → Type 0) (xs : List A) → Each P xs → Each Q xs → Each (λ x. P x × Q x) xs
each_both P Q [] h k = tt
each_both P Q (x ∷ xs) h k = ((h.0, k.0), each_both P Q xs h.1 k.1)

pub each_all : {A : Type 0} (test : A → Bool) (xs : List A) → list_all test xs ≡ true → Each (λ x. test x ≡ true) xs
each_all test [] e = tt
each_all test (x ∷ xs) e = let both = and_parts (test x) (list_all test xs) e in (both.0, each_all test xs both.1)
