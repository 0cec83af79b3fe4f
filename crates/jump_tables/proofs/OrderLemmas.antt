-- The numbers of a list, ascending, each once, are one list: that of a sort that leaves out what is there already.
use Rattle.std.proofs.Common.{◌≡◌, ◌⊎◌, ℕ, zero, suc, ◌+◌, ◌<◌, inl, inr, List, [], ◌∷◌, ltb, eqb, refl, sym, ap₂, subst, arith}
use Rattle.std.specs.Prelude.{All, slice_index}
use Rattle.std.specs.List.{Contains, AllPairs, dedup}
use Rattle.std.specs.List.Sorted.{IsPermutation, IsSorted, IsStrictlyIncreasing}
use Rattle.std.specs.Ordering.{nat_cmp}
use Rattle.std.proofs.lemmas.Bool.{cond_both, eqb-true, eqb-false, ltb-true, ltb-false}
use Rattle.std.proofs.lemmas.List.Elements.{All-nil, All-cons, All-head, All-tail, All-contains, All-weaker, All-contains_itself}
use Rattle.std.proofs.lemmas.List.Kept.{AllPairs-from_increasing, Contains-dedup_nat, Contains-from_dedup}
use Rattle.std.proofs.lemmas.List.Sorted.{Contains-permutation, IsPermutation-sym}
use Rattle.std.proofs.lemmas.Map.Keys.{IsStrictlyIncreasing-dedup}
use Rattle.jump_tables.specs.Ascending.{with_number, ascending_of}

-- ---- members

contains_first : (n : ℕ) (ns : List ℕ) → Contains (n ∷ ns) n
contains_first n ns = (0, omega arith, refl)

contains_later : (m n : ℕ) (ns : List ℕ) → Contains ns n → Contains (m ∷ ns) n
contains_later m n ns k = (suc k.0, omega (arith, k.1), k.2)

first_or_later : (m x : ℕ) (ms : List ℕ) → Contains (m ∷ ms) x → (m ≡ x) ⊎ Contains ms x
first_or_later m x ms (zero, lt, e) = inl e
first_or_later m x ms (suc k, lt, e) = inr (k, omega (arith, lt), e)

-- what holds of a number and of the list holds of the list with the number
All-with_number : (P : ℕ → Type 0) (n : ℕ) (ns : List ℕ) → P n → All P ns → All P (with_number n ns)
All-with_number P n [] one all = All-cons P n [] one all
All-with_number P n (m ∷ ms) one all =
    cond_both (ltb n m) _ _ (All P) (λ _. All-cons P n (m ∷ ms) one all)
    (λ _. cond_both (eqb n m) _ _ (All P) (λ _. all)
    (λ _. All-cons P m _ (All-head P m ms all) (All-with_number P n ms one (All-tail P m ms all))))

All-ascending : (P : ℕ → Type 0) (ns : List ℕ) → All P ns → All P (ascending_of ns)
All-ascending P [] all = all
All-ascending P (n ∷ ns) all =
    All-with_number P n (ascending_of ns) (All-head P n ns all) (All-ascending P ns (All-tail P n ns all))

has_number : (n : ℕ) (ns : List ℕ) → Contains (with_number n ns) n
has_number n [] = contains_first n []
has_number n (m ∷ ms) =
    cond_both (ltb n m) _ _ (λ l. Contains l n) (λ _. contains_first n (m ∷ ms))
    (λ _. cond_both (eqb n m) _ _ (λ l. Contains l n)
    (λ e. subst (λ x. Contains (m ∷ ms) x) (sym (eqb-true n m e)) (contains_first m ms))
    (λ _. contains_later m n _ (has_number n ms)))

keeps_number : (n x : ℕ) (ns : List ℕ) → Contains ns x → Contains (with_number n ns) x
keeps_number n x [] k = absurd (omega (arith, k.1))
keeps_number n x (m ∷ ms) k =
    cond_both (ltb n m) _ _ (λ l. Contains l x) (λ _. contains_later n x (m ∷ ms) k)
    (λ _. cond_both (eqb n m) _ _ (λ l. Contains l x) (λ _. k)
    (λ _. elim (first_or_later m x ms k) [
      | inl e ↦ subst (λ y. Contains (m ∷ with_number n ms) y) e (contains_first m _)
      | inr j ↦ contains_later m x _ (keeps_number n x ms j)
    ]))

-- each number of a list stands in it, ascending
pub Contains-ascending : (x : ℕ) (ns : List ℕ) → Contains ns x → Contains (ascending_of ns) x
Contains-ascending x [] k = k
Contains-ascending x (n ∷ ns) k = elim (first_or_later n x ns k) [
  | inl e ↦ subst (λ y. Contains (with_number n (ascending_of ns)) y) e (has_number n (ascending_of ns))
  | inr j ↦ keeps_number n x (ascending_of ns) (Contains-ascending x ns j)
]

-- and no other does
pub Contains-from_ascending : (x : ℕ) (ns : List ℕ) → Contains (ascending_of ns) x → Contains ns x
Contains-from_ascending x ns k =
    All-contains (Contains ns) (ascending_of ns) x (All-ascending (Contains ns) ns (All-contains_itself ns)) k

-- ---- order

-- each number is below all that follow
abbrev Rises : List ℕ → Type 0
Rises [] = Unit {0}
Rises (n ∷ ns) = All (λ m. n < m) ns × Rises ns

rises_with : (n : ℕ) (ns : List ℕ) → Rises ns → Rises (with_number n ns)
rises_with n [] h = (All-nil (λ m. n < m), tt)
rises_with n (m ∷ ms) h =
    cond_both (ltb n m) _ _ Rises
    (λ e. let low : n < m = ltb-true n m e in
    (All-cons (λ x. n < x) m ms low (All-weaker (λ x. m < x) (λ x. n < x) (λ x up. omega (arith, low, up)) ms h.0), h))
    (λ f. cond_both (eqb n m) _ _ Rises (λ _. h)
    (λ e. let up : m < n = omega (arith, ltb-false n m f, eqb-false n m e) in
    (All-with_number (λ x. m < x) n ms up h.0, rises_with n ms h.1)))

rises_ascending : (ns : List ℕ) → Rises (ascending_of ns)
rises_ascending [] = tt
rises_ascending (n ∷ ns) = rises_with n (ascending_of ns) (rises_ascending ns)

rises_from_pairs : (ns : List ℕ) → AllPairs (λ x y. x < y) ns → Rises ns
rises_from_pairs [] h = tt
rises_from_pairs (n ∷ ns) h = (
  λ k d lt. h 0 (suc k) d (omega arith) (omega (arith, lt)),
  rises_from_pairs ns (λ i j d up lt. h (suc i) (suc j) d (omega (arith, up)) (omega (arith, lt))),
)

increasing_from_rises : (ns : List ℕ) → Rises ns → IsStrictlyIncreasing ns
increasing_from_rises [] h k lt = absurd (omega (arith, lt))
increasing_from_rises (n ∷ ns) h zero lt = h.0 0 0 (omega (arith, lt))
increasing_from_rises (n ∷ ns) h (suc k) lt =
    let next : suc (k + 1) ≡ suc k + 1 = omega arith in
    subst (λ j. slice_index (n ∷ ns) (suc k) < slice_index (n ∷ ns) j) next
    (increasing_from_rises ns h.1 k (omega (arith, lt)))

-- the numbers of a list, ascending, rise
pub IsStrictlyIncreasing-ascending : (ns : List ℕ) → IsStrictlyIncreasing (ascending_of ns)
IsStrictlyIncreasing-ascending ns = increasing_from_rises (ascending_of ns) (rises_ascending ns)

-- two lists that rise and have the same numbers are one
same_from_members : (xs ys : List ℕ) → Rises xs → Rises ys → ((n : ℕ) → Contains xs n → Contains ys n)
    → ((n : ℕ) → Contains ys n → Contains xs n) → xs ≡ ys
same_from_members [] [] h k f g = refl
same_from_members [] (y ∷ ys) h k f g = let none = g y (contains_first y ys) in absurd (omega (arith, none.1))
same_from_members (x ∷ xs) [] h k f g = let none = f x (contains_first x xs) in absurd (omega (arith, none.1))
same_from_members (x ∷ xs) (y ∷ ys) h k f g =
    let above : (n : ℕ) → Contains xs n → x < n = λ n. All-contains (λ m. x < m) xs n h.0 in
    let beyond : (n : ℕ) → Contains ys n → y < n = λ n. All-contains (λ m. y < m) ys n k.0 in
    let first : x ≡ y = elim (first_or_later y x ys (f x (contains_first x xs))) [
      | inl e ↦ sym e
      | inr j ↦ elim (first_or_later x y xs (g y (contains_first y ys))) [
        | inl e ↦ e
        | inr i ↦ absurd (omega (arith, beyond x j, above y i))
      ]
    ] in
    let onward : (n : ℕ) → Contains xs n → Contains ys n = λ n i. elim (first_or_later y n ys (f n (contains_later x n xs i))) [
      | inl e ↦ absurd (omega (arith, above n i, first, e))
      | inr j ↦ j
    ] in
    let backward : (n : ℕ) → Contains ys n → Contains xs n = λ n j. elim (first_or_later x n xs (g n (contains_later y n ys j))) [
      | inl e ↦ absurd (omega (arith, beyond n j, first, e))
      | inr i ↦ i
    ] in
    ap₂ (λ z zs. z ∷ zs) first (same_from_members xs ys h.1 k.1 onward backward)

-- a sorted list without repeated numbers
pub dedup-ascending : (ns sorted : List ℕ) → IsPermutation ns sorted → IsSorted nat_cmp sorted → dedup eqb sorted ≡ ascending_of ns
dedup-ascending ns sorted moved up =
    same_from_members (dedup eqb sorted) (ascending_of ns)
    (rises_from_pairs _ (AllPairs-from_increasing _ (IsStrictlyIncreasing-dedup sorted up))) (rises_ascending ns)
    (λ n k. Contains-ascending n ns
    (Contains-permutation sorted ns n (IsPermutation-sym ns sorted moved) (Contains-from_dedup eqb sorted n k)))
    (λ n k. Contains-dedup_nat sorted n (Contains-permutation ns sorted n moved (Contains-from_ascending n ns k)))
