-- What a search in ascending numbers tells, and what holds of each item of a list.
use Rattle.std.proofs.Common.{◌≡◌, ℕ, zero, suc, ◌<◌, ◌≤◌, Bool, true, false, List, [], ◌∷◌, length, get_or, Result, Ok, Err, refl, sym, inl, inr, arith}
use Rattle.std.specs.Prelude.{nat_lt, is_ok, MatchResult, ◌==◌}
use Rattle.std.specs.Ordering.{nat_cmp}
use Rattle.std.specs.List.{list_all}
use Rattle.std.specs.List.Sorted.{IsBinarySearchResult}
use Rattle.std.proofs.lemmas.Bool.{and_parts, and_from, cases_Bool, cases_lt, eq-eqb, ne_eqb, ltb-true}
use Rattle.std.proofs.lemmas.List.Elements.{All-from_get_or}
use Rattle.std.proofs.lemmas.List.Folds.{list_all_at, list_any_at, list_any_none}
use Rattle.std.proofs.lemmas.List.Sorted.{searched}
use Rattle.predicates.specs.Bounds.{numbers_ascend}
use Rattle.predicates.specs.Holding.{is_among}

-- a test that all items pass is passed at each place
pub passed_at : {X : Type 0} (p : X → Bool) (xs : List X) (i : ℕ) (d : X) → list_all p xs ≡ true → i < length xs → p (get_or xs i d) ≡ true
passed_at p xs i d e h =
    elim (cases_Bool (p (get_or xs i d))) as (λ w. p (get_or xs i d) ≡ true) [
      | inl q ↦ q
      | inr q ↦ let f : list_all p xs ≡ false = list_all_at p xs i d h q in absurd (cc)
    ]

-- no number is below the first of ascending numbers
least : (x : ℕ) (xs : List ℕ) (j : ℕ) → numbers_ascend (x ∷ xs) ≡ true → j < length (x ∷ xs) → x ≤ get_or (x ∷ xs) j 0
least x xs zero e h = omega arith
least x [] (suc j) e h = absurd (omega arith)
least x (y ∷ ys) (suc j) e h =
    let both = and_parts (nat_lt x y) (numbers_ascend (y ∷ ys)) e in
    let above = least y ys j both.1 (omega (arith, h)) in
    omega (arith, ltb-true x y both.0, above)

-- ascending numbers do not fall
ascending_at : (xs : List ℕ) → numbers_ascend xs ≡ true → (i j : ℕ) → i ≤ j → j < length xs → get_or xs i 0 ≤ get_or xs j 0
ascending_at [] e i j h k = absurd (omega arith)
ascending_at (x ∷ xs) e zero j h k = least x xs j e k
ascending_at (x ∷ xs) e (suc i) zero h k = absurd (omega arith)
ascending_at (x ∷ []) e (suc i) (suc j) h k = absurd (omega arith)
ascending_at (x ∷ y ∷ ys) e (suc i) (suc j) h k =
    ascending_at (y ∷ ys) ((and_parts (nat_lt x y) (numbers_ascend (y ∷ ys)) e).1) i j (omega (arith, h)) (omega (arith, k))

among_by : (xs : List ℕ) (x : ℕ) (r : Result ℕ ℕ)
    → MatchResult r (λ i. (i < length xs) × (get_or xs i 0 ≡ x)) (λ i. (i ≤ length xs) × ((k : ℕ) → k < i → get_or xs k 0 < x) × ((k : ℕ) → i ≤ k → k < length xs → x < get_or xs k 0))
    → is_ok r ≡ is_among x xs
among_by xs x (Ok i) m = sym (list_any_at (λ n. n == x) xs i 0 m.0 (eq-eqb (get_or xs i 0) x m.1))
among_by xs x (Err i) m =
    sym (list_any_none (λ n. n == x) xs (All-from_get_or (λ n. (n == x) ≡ false) xs 0 (λ k h.
    ne_eqb (get_or xs k 0) x (λ e. elim (cases_lt k i) as (λ w. ⊥) [
      | inl b ↦ let f = m.1 k b in omega (arith, e, f)
      | inr b ↦ let f = m.2 k b h in omega (arith, e, f)
    ]))))

-- a search in ascending numbers finds a number exactly where it is among them
pub found_among : (xs : List ℕ) (x : ℕ) (r : Result ℕ ℕ) → IsBinarySearchResult (λ y. nat_cmp y x) xs r → numbers_ascend xs ≡ true → is_ok r ≡ is_among x xs
found_among xs x r s e = among_by xs x r (searched xs x r s (ascending_at xs e))

-- a test that is passed at each place is passed by all
pub all_from : {X : Type 0} (p : X → Bool) (xs : List X) → ((i : ℕ) (d : X) → i < length xs → p (get_or xs i d) ≡ true) → list_all p xs ≡ true
all_from p [] h = refl
all_from p (x ∷ xs) h =
    and_from (p x) (list_all p xs) (h 0 x (omega arith)) (all_from p xs (λ i d k. h (suc i) d (omega (arith, k))))
