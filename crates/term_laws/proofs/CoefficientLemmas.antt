-- Coefficients of normal terms: those of a sum, and that they make the term.
use Rattle.std.proofs.Common.{◌≡◌, ℕ, zero, suc, ◌+◌, ◌*◌, ◌%◌, ◌^◌, ◌<◌, true, false, if◌then◌else◌, refl, sym, ap, ap₂, subst, ◌∙◌, arith}
use Rattle.std.specs.declared.cmp.Ordering.TheVariants.{Less, Equal, Greater}
use Rattle.std.specs.Ordering.{is_eq}
use Rattle.std.specs.Cmp.{tied_itself}
use Rattle.sym_terms.specs.Plain.{PlainSum, sum, Summands, none, more, PlainAtom}
use Rattle.sym_terms.specs.Order.{atom_cmp}
use Rattle.sym_terms.specs.Codes.{atom_same, atom_total}
use Rattle.sym_terms.specs.Normal.{joined, plus_times_pieces, plus_times, IsNormal, AreNormal, IsBefore}
use Rattle.term_laws.specs.Laws.{constant_of, coefficient_in, coefficient_of}
use Rattle.sym_terms.proofs.SumLemmas.{before_trans, before_plus_times, plus_times_pieces_normal, turned}
use Rattle.sym_terms.proofs.AtomLemmas.{equal_from}

-- an atom before all pieces doesn't stand in them
absent : (x : PlainAtom) (ys : Summands) → AreNormal ys → IsBefore x ys → coefficient_in x ys ≡ 0
absent x none n h = refl
absent x (more b l ys) n h =
    ap (λ o. if is_eq o then l else coefficient_in x ys) h ∙ absent x ys n.4 (before_trans x b ys h n.3)

-- atoms that compare Equal are the same
same_from : (x a : PlainAtom) → is_eq (atom_cmp x a) ≡ true → x ≡ a
same_from x a e = atom_same x a (equal_from (atom_cmp x a) e)

-- an atom that is before all pieces doesn't stand in them
absent_same : (x a : PlainAtom) (ys : Summands) → is_eq (atom_cmp x a) ≡ true → AreNormal ys → IsBefore a ys → coefficient_in x ys ≡ 0
absent_same x a ys e n h = ap (λ y. coefficient_in y ys) (same_from x a e) ∙ absent a ys n h

-- the coefficients after a piece is put in front
joined_coefficient : (x a : PlainAtom) (k : ℕ) (ys : Summands) → AreNormal ys → IsBefore a ys
    → coefficient_in x (joined a k ys) ≡ (if is_eq (atom_cmp x a) then k else coefficient_in x ys)
joined_coefficient x a zero ys n h =
    (elim (is_eq (atom_cmp x a)) as (λ t. is_eq (atom_cmp x a) ≡ t → coefficient_in x ys ≡ (if t then 0 else coefficient_in x ys)) [
      | true ↦ λ e. absent_same x a ys e n h
      | false ↦ λ e. refl
    ]) refl
joined_coefficient x a (suc k) ys n h = refl

-- coefficients of normal pieces have 64 bits
coefficient_below : (x : PlainAtom) (ys : Summands) → AreNormal ys → coefficient_in x ys < 2 ^ 64
coefficient_below x none n = omega arith
coefficient_below x (more b l ys) n =
    elim (is_eq (atom_cmp x b)) as (λ t. (if t then l else coefficient_in x ys) < 2 ^ 64) [
      | true ↦ n.2
      | false ↦ coefficient_below x ys n.4
    ]

-- a coefficient with 0 added
nothing_added : (k m c : ℕ) → k < 2 ^ 64 → c ≡ 0 → k ≡ (k + m * c) % 2 ^ 64
nothing_added k m c h e = let f : k ≡ (k + m * 0) % 2 ^ 64 = omega arith in f ∙ ap (λ c. (k + m * c) % 2 ^ 64) (sym e)

-- a coefficient added to 0
added_to_nothing : (n c : ℕ) → c ≡ 0 → n % 2 ^ 64 ≡ (c + n) % 2 ^ 64
added_to_nothing n c e = let f : n % 2 ^ 64 ≡ (0 + n) % 2 ^ 64 = omega arith in f ∙ ap (λ c. (c + n) % 2 ^ 64) (sym e)

-- the coefficient that a sum should have at x
abbrev sum_at : PlainAtom → Summands → ℕ → Summands → ℕ
sum_at x xs m ys = (coefficient_in x xs + m * coefficient_in x ys) % 2 ^ 64

module _ (x : PlainAtom) (m : ℕ) where
  -- the merge has the sums of the coefficients
  coefficients_in : (xs ys : Summands) → AreNormal xs → AreNormal ys → coefficient_in x (plus_times_pieces xs m ys) ≡ sum_at x xs m ys
  coefficients_in none none nx ny = nothing_added 0 m 0 (omega arith) refl
  coefficients_in none (more b l ys) nx ny =
      joined_coefficient x b (m * l % 2 ^ 64) (plus_times_pieces none m ys) (plus_times_pieces_normal none m ys tt ny.4) (before_plus_times b none m ys tt ny.4 tt ny.3)
      ∙ (elim (is_eq (atom_cmp x b)) as (λ t. (if t then m * l % 2 ^ 64 else coefficient_in x (plus_times_pieces none m ys)) ≡ (0 + m * (if t then l else coefficient_in x ys)) % 2 ^ 64) [
        | true ↦ added_to_nothing (m * l) 0 refl
        | false ↦ coefficients_in none ys nx ny.4
      ])
  coefficients_in (more a k xs) none nx ny = nothing_added (coefficient_in x (more a k xs)) m 0 (coefficient_below x (more a k xs) nx) refl
  coefficients_in (more a k xs) (more b l ys) nx ny =
      (elim (atom_cmp a b) as (λ o. atom_cmp a b ≡ o →
      coefficient_in x (elim o as (λ o. Summands) [
        | Less ↦ more a k (plus_times_pieces xs m (more b l ys))
        | Equal ↦ joined a ((k + m * l) % 2 ^ 64) (plus_times_pieces xs m ys)
        | Greater ↦ joined b (m * l % 2 ^ 64) (plus_times_pieces (more a k xs) m ys)
      ]) ≡ sum_at x (more a k xs) m (more b l ys)) [
        | Less ↦ λ e.
            (elim (is_eq (atom_cmp x a)) as (λ t. is_eq (atom_cmp x a) ≡ t →
            (if t then k else coefficient_in x (plus_times_pieces xs m (more b l ys))) ≡ ((if t then k else coefficient_in x xs) + m * coefficient_in x (more b l ys)) % 2 ^ 64) [
              | true ↦ λ h. nothing_added k m _ nx.2 (absent_same x a (more b l ys) h ny e)
              | false ↦ λ h. coefficients_in xs (more b l ys) nx.4 ny
            ]) refl
        | Equal ↦ λ e.
            let same : a ≡ b = atom_same a b e in
            joined_coefficient x a ((k + m * l) % 2 ^ 64) (plus_times_pieces xs m ys) (plus_times_pieces_normal xs m ys nx.4 ny.4)
            (before_plus_times a xs m ys nx.4 ny.4 nx.3 (subst (λ d. IsBefore d ys) (sym same) ny.3))
            ∙ (elim (is_eq (atom_cmp x a)) as (λ t.
            (if t then (k + m * l) % 2 ^ 64 else coefficient_in x (plus_times_pieces xs m ys)) ≡ ((if t then k else coefficient_in x xs) + m * (if t then l else coefficient_in x ys)) % 2 ^ 64) [
              | true ↦ refl
              | false ↦ coefficients_in xs ys nx.4 ny.4
            ])
            ∙ ap (λ d. (coefficient_in x (more a k xs) + m * (if is_eq (atom_cmp x d) then l else coefficient_in x ys)) % 2 ^ 64) same
        | Greater ↦ λ e.
            joined_coefficient x b (m * l % 2 ^ 64) (plus_times_pieces (more a k xs) m ys) (plus_times_pieces_normal (more a k xs) m ys nx ny.4)
            (before_plus_times b (more a k xs) m ys nx ny.4 (turned a b e) ny.3)
            ∙ (elim (is_eq (atom_cmp x b)) as (λ t. is_eq (atom_cmp x b) ≡ t →
            (if t then m * l % 2 ^ 64 else coefficient_in x (plus_times_pieces (more a k xs) m ys)) ≡ (coefficient_in x (more a k xs) + m * (if t then l else coefficient_in x ys)) % 2 ^ 64) [
              | true ↦ λ h. added_to_nothing (m * l) _ (absent_same x b (more a k xs) h nx (turned a b e))
              | false ↦ λ h. coefficients_in (more a k xs) ys nx ny.4
            ]) refl
      ]) refl

-- the coefficients of a + m * b are those of a plus m times those of b
pub plus_times_coefficient : (x : PlainAtom) (a : PlainSum) (m : ℕ) (b : PlainSum) → IsNormal a → IsNormal b
    → coefficient_of x (plus_times a m b) ≡ (coefficient_of x a + m * coefficient_of x b) % 2 ^ 64
unfolding plus_times
plus_times_coefficient x (sum c xs) m (sum d ys) na nb = coefficients_in x m xs ys na.1 nb.1

-- the constant of a + m * b
pub plus_times_constant : (a : PlainSum) (m : ℕ) (b : PlainSum) → constant_of (plus_times a m b) ≡ (constant_of a + m * constant_of b) % 2 ^ 64
unfolding plus_times
plus_times_constant (sum c xs) m (sum d ys) = refl

-- the first piece has its coefficient
first_coefficient : (a : PlainAtom) (k : ℕ) (xs : Summands) → coefficient_in a (more a k xs) ≡ k
first_coefficient a k xs = ap (λ o. if is_eq o then k else coefficient_in a xs) (tied_itself atom_total a)

-- the other atoms have the coefficients of the rest
rest_same : (a : PlainAtom) (k l : ℕ) (xs ys : Summands) → AreNormal xs → AreNormal ys → IsBefore a xs → IsBefore a ys
    → ((x : PlainAtom) → coefficient_in x (more a k xs) ≡ coefficient_in x (more a l ys)) → (x : PlainAtom) → coefficient_in x xs ≡ coefficient_in x ys
rest_same a k l xs ys nx ny hx hy e x =
    (elim (is_eq (atom_cmp x a)) as (λ t. is_eq (atom_cmp x a) ≡ t → (if t then k else coefficient_in x xs) ≡ (if t then l else coefficient_in x ys) → coefficient_in x xs ≡ coefficient_in x ys) [
      | true ↦ λ h f. absent_same x a xs h nx hx ∙ sym (absent_same x a ys h ny hy)
      | false ↦ λ h f. f
    ]) refl (e x)

-- normal pieces with the same coefficients are the same
coefficients_same : (xs ys : Summands) → AreNormal xs → AreNormal ys → ((x : PlainAtom) → coefficient_in x xs ≡ coefficient_in x ys) → xs ≡ ys
coefficients_same none none nx ny e = refl
coefficients_same none (more b l ys) nx ny e = let f = e b ∙ first_coefficient b l ys in absurd (omega (arith, f, ny.1))
coefficients_same (more a k xs) none nx ny e = let f = sym (e a) ∙ first_coefficient a k xs in absurd (omega (arith, f, nx.1))
coefficients_same (more a k xs) (more b l ys) nx ny e =
    (elim (atom_cmp a b) as (λ o. atom_cmp a b ≡ o → more a k xs ≡ more b l ys) [
      | Less ↦ λ o. let f = sym (first_coefficient a k xs) ∙ e a ∙ absent a (more b l ys) ny o in absurd (omega (arith, f, nx.1))
      | Equal ↦ λ o.
          let same : a ≡ b = atom_same a b o in
          let here : (x : PlainAtom) → coefficient_in x (more a k xs) ≡ coefficient_in x (more a l ys) = λ x. e x ∙ ap (λ d. coefficient_in x (more d l ys)) (sym same) in
          let one : k ≡ l = sym (first_coefficient a k xs) ∙ here a ∙ first_coefficient a l ys in
          let rest : xs ≡ ys = coefficients_same xs ys nx.4 ny.4 (rest_same a k l xs ys nx.4 ny.4 nx.3 (subst (λ d. IsBefore d ys) (sym same) ny.3) here) in
          λ i. more (same i) (one i) (rest i)
      | Greater ↦ λ o. let f = sym (first_coefficient b l ys) ∙ sym (e b) ∙ absent b (more a k xs) nx (turned a b o) in absurd (omega (arith, f, ny.1))
    ]) refl

-- normal terms with the same constant and the same coefficients are the same
pub same_coefficients : (a b : PlainSum) → IsNormal a → IsNormal b → constant_of a ≡ constant_of b → ((x : PlainAtom) → coefficient_of x a ≡ coefficient_of x b) → a ≡ b
same_coefficients (sum c xs) (sum d ys) na nb e h = ap₂ sum e (coefficients_same xs ys na.1 nb.1 h)
