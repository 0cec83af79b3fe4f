-- What one item more at the end of a list does to its order and to what is made of it.
use Rattle.std.proofs.Common.{◌≡◌, ℕ, suc, ◌+◌, Bool, true, List, [], ◌∷◌, ◌++◌, length, map, refl, ap, ◌∙◌, arith, ltb-true}
use Rattle.std.specs.Prelude.{nat_lt}
use Rattle.std.specs.List.{enumerate_from, list_all}
use Rattle.std.proofs.lemmas.Bool.{and_parts, and_from}
use Rattle.predicates.specs.Bounds.{in_order}
use Rattle.graph_data.specs.Parts.{Ascends}
use Rattle.graph_builder.specs.Order.{extends_order}

-- what follows a list follows its last item
pub extends_last : {A B : Type 0} (before : A → B → Bool) (xs : List A) (x : A) (y : B) → extends_order before (xs ++ x ∷ []) y ≡ before x y
extends_last before [] x y = refl
extends_last before (z ∷ []) x y = refl
extends_last before (z ∷ w ∷ xs) x y = extends_last before (w ∷ xs) x y

-- a list with an item that follows it is in order
pub order_more : {A : Type 0} (before : A → A → Bool) (xs : List A) (x : A) → in_order before xs ≡ true → extends_order before xs x ≡ true → in_order before (xs ++ x ∷ []) ≡ true
order_more before [] x e f = refl
order_more before (z ∷ []) x e f = and_from (before z x) true f refl
order_more before (z ∷ w ∷ xs) x e f =
    let both = and_parts (before z w) (in_order before (w ∷ xs)) e in
    and_from (before z w) (in_order before ((w ∷ xs) ++ x ∷ [])) both.0 (order_more before (w ∷ xs) x both.1 f)

-- numbers with one above the last ascend
pub ascends_more : {A : Type 0} (key : A → ℕ) (xs : List A) (x : A) → Ascends (map key xs) → extends_order (λ a n. nat_lt (key a) n) xs (key x) ≡ true → Ascends (map key (xs ++ x ∷ []))
ascends_more key [] x h f = tt
ascends_more key (z ∷ []) x h f = (ltb-true (key z) (key x) f, tt)
ascends_more key (z ∷ w ∷ xs) x h f = (h.0, ascends_more key (w ∷ xs) x h.1 f)

-- a test that all pass, and one more
pub all_more : {A : Type 0} (p : A → Bool) (xs : List A) (x : A) → list_all p xs ≡ true → p x ≡ true → list_all p (xs ++ x ∷ []) ≡ true
all_more p [] x e f = and_from (p x) true f refl
all_more p (z ∷ xs) x e f =
    let both = and_parts (p z) (list_all p xs) e in
    and_from (p z) (list_all p (xs ++ x ∷ [])) both.0 (all_more p xs x both.1 f)

-- the last one has the number of those before it
pub numbered_more : {A : Type 0} (n : ℕ) (xs : List A) (x : A) → enumerate_from n (xs ++ x ∷ []) ≡ enumerate_from n xs ++ (n + length xs, x) ∷ []
numbered_more {A = A} n [] x = let e : n ≡ n + 0 = omega arith in ap {B = List (ℕ × A)} (λ k. (k, x) ∷ []) e
numbered_more {A = A} n (y ∷ ys) x =
    let e : n + 1 + length ys ≡ n + suc (length ys) = omega arith in
    ap {B = List (ℕ × A)} (λ r. (n, y) ∷ r) (numbered_more (n + 1) ys x)
    ∙ ap {B = List (ℕ × A)} (λ k. (n, y) ∷ enumerate_from (n + 1) ys ++ (k, x) ∷ []) e
