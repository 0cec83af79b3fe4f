-- A search by std in a list whose keys ascend gives the first element with the key.
use Rattle.std.proofs.Common.{◌≡◌, ℕ, zero, suc, ◌<◌, ◌≤◌, true, false, eqb, List, [], ◌∷◌, length, get_or, map, Some, None, Result, Ok, Err, refl, sym, ap, subst, ◌∙◌, arith, inl, inr, ◌≢◌}
use Rattle.std.specs.Prelude.{MatchResult}
use Rattle.std.specs.declared.cmp.Ordering.TheVariants.{Less, Equal, Greater}
use Rattle.std.specs.Cmp.{ranks}
use Rattle.std.specs.List.{find}
use Rattle.std.specs.List.Sorted.{IsBinarySearchResult, IsSearchInRange}
use Rattle.std.specs.Ordering.{nat_cmp, ordering_index, MatchOrdering}
use Rattle.std.proofs.lemmas.Bool.{eq-eqb, ne_eqb, cases_lt}
use Rattle.std.proofs.lemmas.Bool.Decides.{nat_tests}
use Rattle.std.proofs.lemmas.List.{get_or_default}
use Rattle.graph_data.specs.Parts.{Ascends}

-- the keys after the first ascend
others_ascend : {X : Type 0} (key : X → ℕ) (x : X) (xs : List X) → Ascends (map key (x ∷ xs)) → Ascends (map key xs)
others_ascend key x [] h = tt
others_ascend key x (y ∷ xs) h = h.1

-- the first key is below each after it
first_below : {X : Type 0} (key : X → ℕ) (x : X) (xs : List X) (i : ℕ) (y : X) → Ascends (map key (x ∷ xs)) → i < length xs → y ≡ get_or xs i y → key x < key y
first_below key x [] i y h lt is = absurd (omega arith)
first_below key x (z ∷ xs) zero y h lt is = let e : key y ≡ key z = ap key is in omega (arith, h.0, e)
first_below key x (z ∷ xs) (suc i) y h lt is = omega (arith, h.0, first_below key z xs i y h.1 (omega arith) is)

-- an earlier key is below a later one
earlier_below : {X : Type 0} (key : X → ℕ) (xs : List X) (i j : ℕ) (x y : X) → Ascends (map key xs) → i < j → j < length xs → x ≡ get_or xs i x → y ≡ get_or xs j y → key x < key y
earlier_below key [] i j x y h before lt at_i at_j = absurd (omega arith)
earlier_below key (z ∷ xs) i zero x y h before lt at_i at_j = absurd (omega arith)
earlier_below key (z ∷ xs) zero (suc j) x y h before lt at_i at_j = let e : key x ≡ key z = ap key at_i in omega (arith, e, first_below key z xs j y h (omega arith) at_j)
earlier_below key (z ∷ xs) (suc i) (suc j) x y h before lt at_i at_j = earlier_below key xs i j x y (others_ascend key z xs h) (omega arith) (omega arith) at_i at_j

-- the element with the key is the first with it
finds : {X : Type 0} (key : X → ℕ) (xs : List X) (i : ℕ) (x : X) (wanted : ℕ) → Ascends (map key xs) → i < length xs → x ≡ get_or xs i x → key x ≡ wanted → Some x ≡ find (λ y. eqb (key y) wanted) xs
finds key [] i x wanted ascends lt at is = absurd (omega arith)
finds key (z ∷ xs) zero x wanted ascends lt at is = let e : eqb (key z) wanted ≡ true = eq-eqb _ _ (sym (ap key at) ∙ is) in rw e (ap (λ y. Some y) at)
finds key (z ∷ xs) (suc i) x wanted ascends lt at is =
    let less : key z < key x = first_below key z xs i x ascends (omega arith) at in
    let e : eqb (key z) wanted ≡ false = ne_eqb _ _ (λ same. absurd (omega (arith, less, is, same))) in
    rw e (finds key xs i x wanted (others_ascend key z xs ascends) (omega arith) at is)

-- where no key is the wanted one, none is found
none_of : {X : Type 0} (key : X → ℕ) (xs : List X) (wanted : ℕ) → ((k : ℕ) (x : X) → k < length xs → x ≡ get_or xs k x → key x ≢ wanted) → None ≡ find (λ y. eqb (key y) wanted) xs
none_of key [] wanted other = refl
none_of key (z ∷ xs) wanted other =
    let e : eqb (key z) wanted ≡ false = ne_eqb _ _ (other 0 z (omega arith) refl) in
    rw e (none_of key xs wanted (λ k x lt at. other (suc k) x (omega arith) at))

-- keys don't fall
rising : {X : Type 0} (key : X → ℕ) (xs : List X) (i j : ℕ) (d : X) → Ascends (map key xs) → i ≤ j → j < length xs → key (get_or xs i d) ≤ key (get_or xs j d)
rising key xs i j d up le lt =
    elim (cases_lt i j) [
      | inl before ↦
          let less = earlier_below key xs i j (get_or xs i d) (get_or xs j d) up before lt (get_or_default xs i d (get_or xs i d) (omega arith)) (get_or_default xs j d (get_or xs j d) lt) in
          omega (arith, less)
      | inr upto ↦ let e : i ≡ j = omega arith in let f : key (get_or xs i d) ≡ key (get_or xs j d) = ap (λ k. key (get_or xs k d)) e in omega (arith, f)
    ]

-- a higher number stands no lower against the wanted one
index_rises : (a b wanted : ℕ) → a ≤ b → ordering_index (nat_cmp a wanted) ≤ ordering_index (nat_cmp b wanted)
index_rises a b wanted le = grind (arith, nat_tests)

-- what the search finds is the first element with the key, and where it finds nothing there is none
pub searched_by_key : {X : Type 0} (key : X → ℕ) (xs : List X) (wanted : ℕ) (r : Result ℕ ℕ) → Ascends (map key xs) → IsSearchInRange r (length xs)
    → IsBinarySearchResult (λ y. nat_cmp (key y) wanted) xs r
    → MatchResult r (λ i. (x : X) → x ≡ get_or xs i x → Some x ≡ find (λ y. eqb (key y) wanted) xs) (λ i. None ≡ find (λ y. eqb (key y) wanted) xs)
searched_by_key key xs wanted (Ok i) up lt at = λ x is.
    let here : key x ≡ wanted = subst (λ o. MatchOrdering o (key x < wanted) (key x ≡ wanted) (wanted < key x)) (subst (λ y. nat_cmp (key y) wanted ≡ Equal) (sym is) (at x)) (ranks (key x) wanted) in
    finds key xs i x wanted up lt is here
searched_by_key {X = X} key xs wanted (Err i) up le at = none_of key xs wanted other
  where
    other : (k : ℕ) (x : X) → k < length xs → x ≡ get_or xs k x → key x ≢ wanted
    other k x lt is = λ same.
        let parted = at (λ a b d le lt. index_rises (key (get_or xs a d)) (key (get_or xs b d)) wanted (rising key xs a b d up le lt)) in
        elim (cases_lt k i) [
          | inl before ↦
              let less : key x < wanted = subst (λ o. MatchOrdering o (key x < wanted) (key x ≡ wanted) (wanted < key x)) (subst (λ y. nat_cmp (key y) wanted ≡ Less) (sym is) (parted.0 k x (omega arith) before)) (ranks (key x) wanted) in
              absurd (omega (arith, same, less))
          | inr from ↦
              let more : wanted < key x = subst (λ o. MatchOrdering o (key x < wanted) (key x ≡ wanted) (wanted < key x)) (subst (λ y. nat_cmp (key y) wanted ≡ Greater) (sym is) (parted.1 k x from lt)) (ranks (key x) wanted) in
              absurd (omega (arith, same, more))
        ]
