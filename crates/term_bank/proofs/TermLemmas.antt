-- What putting a term into a list of different terms does.
use Rattle.std.proofs.Common.{◌≡◌, ℕ, zero, suc, ◌+◌, ◌<◌, ◌≤◌, ◌≢◌, Bool, true, false, not, cond, ◌||◌, List, [], ◌∷◌, ◌++◌, length, get_or, refl, sym, ap, subst, ◌∙◌, arith, lt-ltb, le-ltb, le_of_eq, true≢false, one-add, add-one, length-append, inl, inr, eq-or-lt_of_le}
use Rattle.std.specs.Prelude.{◌⊎◌, if◌then◌else◌, Option, Some, None, position, nat_lt}
use Rattle.std.specs.List.{list_any, position_or_len}
use Rattle.std.proofs.lemmas.List.{get_or_at, get_or_append_left}
use Rattle.sym_terms.specs.Plain.{PlainSum, sum, none}
use Rattle.sym_terms.specs.Equality.{equals, equals_same, equals_equiv}
use Rattle.term_bank.specs.Terms.{term_at, AreApart, place_of, with_term, Grows}

-- the first term is the one, or the rest has it
stands_by : (x t : PlainSum) (xs : List PlainSum) (b : Bool) → equals t x ≡ b → (b || list_any (equals t) xs) ≡ true
    → (list_any (equals t) xs ≡ true → (place_of xs t < length xs) × (term_at xs (place_of xs t) ≡ t))
    → (cond (not b) (1 + place_of xs t) 0 < suc (length xs)) × (get_or (x ∷ xs) (cond (not b) (1 + place_of xs t) 0) (sum 0 none) ≡ t)
stands_by x t xs true e any rest = (omega arith, sym (equals_same t x e))
stands_by x t xs false e any rest = (let h = (rest any).0 in omega arith, rw (one-add) (rest any).1)

-- a term that stands among others stands at its place
pub stands : (ts : List PlainSum) (t : PlainSum) → list_any (equals t) ts ≡ true
    → (place_of ts t < length ts) × (term_at ts (place_of ts t) ≡ t)
stands [] t e = absurd (cc)
stands (x ∷ xs) t e = stands_by x t xs (equals t x) refl e (stands xs t)

-- neither the first term is the one nor has the rest it
absent_by : (x t : PlainSum) (xs : List PlainSum) (b : Bool) → (b || list_any (equals t) xs) ≡ false
    → (list_any (equals t) xs ≡ false → place_of xs t ≡ length xs) → cond (not b) (1 + place_of xs t) 0 ≡ suc (length xs)
absent_by x t xs true any rest = absurd (cc)
absent_by x t xs false any rest = let h = rest any in omega arith

-- a term that doesn't stand among others has the first free place
pub absent : (ts : List PlainSum) (t : PlainSum) → list_any (equals t) ts ≡ false → place_of ts t ≡ length ts
absent [] t e = refl
absent (x ∷ xs) t e = absent_by x t xs (equals t x) e (absent xs t)

-- a term at a place stands among them
pub stands_at : (ts : List PlainSum) (t : PlainSum) (n : ℕ) → n < length ts → term_at ts n ≡ t → list_any (equals t) ts ≡ true
stands_at [] t n h e = absurd (omega arith)
stands_at (x ∷ xs) t zero h e =
    let own : equals t x ≡ true = subst (λ y. equals t y ≡ true) (sym e) (equals_equiv.refl t) in
    rw own
stands_at (x ∷ xs) t (suc n) h e =
    let rest = stands_at xs t n (omega arith) e in
    elim (equals t x) as (λ b. (b || list_any (equals t) xs) ≡ true) [ true ↦ refl | false ↦ rest ]

-- the term stands at its place afterwards
pub placed : (ts : List PlainSum) (t : PlainSum)
    → (place_of ts t < length (with_term ts t)) × (term_at (with_term ts t) (place_of ts t) ≡ t)
placed ts t =
    (elim (list_any (equals t) ts) as (λ b. list_any (equals t) ts ≡ b → (place_of ts t < length (if b then ts else ts ++ t ∷ []))
    × (term_at (if b then ts else ts ++ t ∷ []) (place_of ts t) ≡ t)) [
      | true ↦ λ e. stands ts t e
      | false ↦ λ e. (let h = absent ts t e in omega (arith, length-append ts (t ∷ [])), get_or_at ts t [] (sum 0 none) (place_of ts t) (sym (absent ts t e)))
    ]) refl

-- the list begins with what it was
pub grown : (ts : List PlainSum) (t : PlainSum) → Grows ts (with_term ts t)
grown ts t = elim (list_any (equals t) ts) as (λ b. Grows ts (if b then ts else ts ++ t ∷ [])) [
  | true ↦ record { longer = omega arith; same = λ n h. refl }
  | false ↦ record { longer = omega (arith, length-append ts (t ∷ [])); same = λ n h. get_or_append_left ts (t ∷ []) (sum 0 none) n h }
]

-- a place in a list with one more is an old one, or the last
last_or : (n k : ℕ) → n < k + 1 → (n ≡ k) ⊎ (n < k)
last_or n k h = eq-or-lt_of_le (omega arith)

-- a term that doesn't stand among different ones comes last, and they stay different
more_apart : (ts : List PlainSum) (t : PlainSum) → AreApart ts → list_any (equals t) ts ≡ false → AreApart (ts ++ t ∷ [])
more_apart ts t h e m n lm ln same =
    let long = length-append ts (t ∷ []) in
    let last : term_at (ts ++ t ∷ []) (length ts) ≡ t = get_or_at ts t [] (sum 0 none) (length ts) refl in
    let early : (k : ℕ) → k < length ts → term_at (ts ++ t ∷ []) k ≡ term_at ts k = λ k l. get_or_append_left ts (t ∷ []) (sum 0 none) k l in
    let new : (k : ℕ) → k < length ts → term_at (ts ++ t ∷ []) k ≡ t → ⊥ =
    λ k l same. true≢false (sym (stands_at ts t k l (sym (early k l) ∙ same)) ∙ e) in
    elim (last_or m (length ts) (omega arith)) [
      | inl x ↦ elim (last_or n (length ts) (omega arith)) [
        | inl y ↦ x ∙ sym y
        | inr y ↦ absurd (new n y (sym same ∙ ap (term_at (ts ++ t ∷ [])) x ∙ last))
      ]
      | inr x ↦ elim (last_or n (length ts) (omega arith)) [
        | inl y ↦ absurd (new m x (same ∙ ap (term_at (ts ++ t ∷ [])) y ∙ last))
        | inr y ↦ h m n x y (sym (early m x) ∙ same ∙ early n y)
      ]
    ]

-- terms stay different
pub apart_with : (ts : List PlainSum) (t : PlainSum) → AreApart ts → AreApart (with_term ts t)
apart_with ts t h =
    (elim (list_any (equals t) ts) as (λ b. list_any (equals t) ts ≡ b → AreApart (if b then ts else ts ++ t ∷ [])) [
      | true ↦ λ e. h
      | false ↦ λ e. more_apart ts t h e
    ]) refl

-- a term that a search finds is at its place, and the list stays
pub at_position : (ts : List PlainSum) (t : PlainSum) (n : ℕ) → position (equals t) ts ≡ Some n
    → (n ≡ place_of ts t) × (with_term ts t ≡ ts)
at_position ts t n =
    (elim (list_any (equals t) ts) as (λ b. list_any (equals t) ts ≡ b → position (equals t) ts ≡ Some n
    → (n ≡ place_of ts t) × ((if b then ts else ts ++ t ∷ []) ≡ ts)) [
      | true ↦ λ e found. let there : nat_lt (place_of ts t) (length ts) ≡ true = lt-ltb _ _ (stands ts t e).0 in
          let same : Some (place_of ts t) ≡ Some n = rw there at found in (cc, refl)
      | false ↦ λ e found. let far : nat_lt (place_of ts t) (length ts) ≡ false = le-ltb _ _ (le_of_eq (sym (absent ts t e))) in
          let none : None ≡ Some n = rw far at found in absurd (cc)
    ]) refl

-- a term that a search doesn't find comes last
pub no_position : (ts : List PlainSum) (t : PlainSum) → position (equals t) ts ≡ None
    → (length ts ≡ place_of ts t) × (with_term ts t ≡ ts ++ t ∷ [])
no_position ts t =
    (elim (list_any (equals t) ts) as (λ b. list_any (equals t) ts ≡ b → position (equals t) ts ≡ None
    → (length ts ≡ place_of ts t) × ((if b then ts else ts ++ t ∷ []) ≡ ts ++ t ∷ [])) [
      | true ↦ λ e found. let there : nat_lt (place_of ts t) (length ts) ≡ true = lt-ltb _ _ (stands ts t e).0 in
          let same : Some (place_of ts t) ≡ None = rw there at found in absurd (cc)
      | false ↦ λ e found. (sym (absent ts t e), refl)
    ]) refl
