-- Lists in order: short ones, and what a test of each item and the next tells.
use Rattle.std.proofs.Common.{◌≡◌, ℕ, zero, suc, ◌<◌, ◌≤◌, Bool, true, false, ◌&&◌, List, [], ◌∷◌, length, get_or, refl, sym, ap, add-one, arith}
use Rattle.std.specs.List.{IsAllAdjacentAnswer}
use Rattle.std.proofs.lemmas.Bool.{and_from}
use Rattle.predicates.specs.Bounds.{in_order}

-- one item is in order
pub in_order_short : {A : Type 0} (before : A → A → Bool) (xs : List A) → length xs ≤ 1 → in_order before xs ≡ true
in_order_short before [] h = refl
in_order_short before (x ∷ []) h = refl
in_order_short before (x ∷ y ∷ ys) h = absurd (omega arith)

-- what one false part makes false
and_false : (b c : Bool) → c ≡ false → (b && c) ≡ false
and_false true c e = e
and_false false c e = refl

-- items that each stand before the next are in order
in_order_from : {A : Type 0} (before : A → A → Bool) (xs : List A) → ((k : ℕ) (d : A) → suc k < length xs → true ≡ before (get_or xs k d) (get_or xs (suc k) d)) → in_order before xs ≡ true
in_order_from before [] h = refl
in_order_from before (x ∷ []) h = refl
in_order_from before (x ∷ y ∷ ys) h =
    and_from (before x y) (in_order before (y ∷ ys)) (sym (h 0 x (omega arith))) (in_order_from before (y ∷ ys) (λ k d l. h (suc k) d (omega (arith, l))))

-- nothing is in order where an item does not stand before the next
in_order_not : {A : Type 0} (before : A → A → Bool) (xs : List A) (k : ℕ) → suc k < length xs → ((d : A) → false ≡ before (get_or xs k d) (get_or xs (suc k) d)) → in_order before xs ≡ false
in_order_not before [] k l e = absurd (omega arith)
in_order_not before (x ∷ []) k l e = absurd (omega arith)
in_order_not before (x ∷ y ∷ ys) zero l e = ap (λ b. b && in_order before (y ∷ ys)) (sym (e x))
in_order_not before (x ∷ y ∷ ys) (suc k) l e =
    let rest = in_order_not before (y ∷ ys) k (omega (arith, l)) e in and_false (before x y) (in_order before (y ∷ ys)) rest

-- the answer of a test of each item and the next is whether they are in order
pub in_order_answer : {A : Type 0} (before : A → A → Bool) (xs : List A) (r : Bool) → IsAllAdjacentAnswer (λ x y b. b ≡ before x y) xs r → r ≡ in_order before xs
in_order_answer before xs true h = sym (in_order_from before xs (λ k d l. rw (add-one k) at (h k d (omega (arith, l)))))
in_order_answer before xs false h = sym (in_order_not before xs h.0 (omega (arith, h.1)) (λ d. rw (add-one h.0) at (h.2 d)))
