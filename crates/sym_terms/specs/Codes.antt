-- What list of numbers stands for a term, as the logic keeps it; lists order as their terms do. No clause cites this
-- file: it stands here since the types' models do.
use Rattle.std.specs.Prelude.{◌≡◌, ℕ, zero, suc, List, [], ◌∷◌}
use Rattle.std.specs.declared.cmp.Ordering.{Ordering}
use Rattle.std.specs.declared.cmp.Ordering.TheVariants.{Less, Equal, Greater}
use Rattle.std.specs.Ordering.{ordering_then, nat_cmp}
use Rattle.std.specs.Cmp.{IsTotalOrder, tied_itself}
use Rattle.std.specs.Cmp.Lexicographic.{slice_cmp, nat_list_cmp_total, on_texts}
use Rattle.std.specs.Coded.{Coded, coded_list, coded_ℕ}
use Rattle.std.specs.FinMap.{nat_cmp-IsAntisymmetric}
use Rattle.std.proofs.Common.{refl, sym, ap, ap₂, subst, ◌∙◌}
use Rattle.sym_terms.specs.declared.kinds.Sym.{Sym}
use Rattle.sym_terms.specs.declared.kinds.Sym.TheVariants.{Entry, Ra, FsBase, Named}
use Rattle.sym_terms.specs.declared.kinds.Fit.{Fit}
use Rattle.sym_terms.specs.declared.kinds.Fit.TheVariants.{Zx8, Zx16, Zx32, Sx8, Sx16, Sx32}
use Rattle.sym_terms.specs.declared.kinds.Pair.{Pair}
use Rattle.sym_terms.specs.declared.kinds.Pair.TheVariants.{And, Or, Xor, Mul, Shr, Sar}
use Rattle.sym_terms.specs.Plain.{PlainSum, sum, Summands, none, more, PlainAtom, symbol, fitted, paired}
use Rattle.sym_terms.specs.Order.{sym_rank, sym_number, fit_rank, pair_rank, sym_cmp, sum_cmp, pieces_cmp, atom_cmp}

-- the numbers of a term, of pieces and of an atom, in front of a rest; an end is 0, an atom is not
abbrev mutual
  pub sum_code : PlainSum → List ℕ → List ℕ
  sum_code (sum c xs) rest = c ∷ pieces_code xs rest

  pub pieces_code : Summands → List ℕ → List ℕ
  pieces_code none rest = 0 ∷ rest
  pieces_code (more a k xs) rest = atom_code a (k ∷ pieces_code xs rest)

  pub atom_code : PlainAtom → List ℕ → List ℕ
  atom_code (symbol s) rest = 1 ∷ sym_rank s ∷ sym_number s ∷ rest
  atom_code (fitted f a) rest = 2 ∷ fit_rank f ∷ sum_code a rest
  atom_code (paired p a b) rest = 3 ∷ pair_rank p ∷ sum_code a (sum_code b rest)

-- the order of lists, number by number
abbrev lex : List ℕ → List ℕ → Ordering
lex = slice_cmp nat_cmp

-- deciding by three orders groups either way
then_assoc : (x y z : Ordering) → ordering_then (ordering_then x y) z ≡ ordering_then x (ordering_then y z)
then_assoc Less y z = refl
then_assoc Equal y z = refl
then_assoc Greater y z = refl

-- lists compare as what they stand for, and then as their rests
mutual
  sum_lex : (a b : PlainSum) (r s : List ℕ)
      → slice_cmp nat_cmp (sum_code a r) (sum_code b s) ≡ ordering_then (sum_cmp a b) (slice_cmp nat_cmp r s)
  sum_lex (sum c xs) (sum d ys) r s =
      ap (ordering_then (nat_cmp c d)) (pieces_lex xs ys r s) ∙ sym (then_assoc (nat_cmp c d) (pieces_cmp xs ys) (lex r s))

  pieces_lex : (xs ys : Summands) (r s : List ℕ)
      → slice_cmp nat_cmp (pieces_code xs r) (pieces_code ys s) ≡ ordering_then (pieces_cmp xs ys) (slice_cmp nat_cmp r s)
  pieces_lex none none r s = refl
  pieces_lex none (more (symbol t) l ys) r s = refl
  pieces_lex none (more (fitted g c) l ys) r s = refl
  pieces_lex none (more (paired q c d) l ys) r s = refl
  pieces_lex (more (symbol t) l ys) none r s = refl
  pieces_lex (more (fitted g c) l ys) none r s = refl
  pieces_lex (more (paired q c d) l ys) none r s = refl
  pieces_lex (more a k xs) (more b l ys) r s =
      atom_lex a b (k ∷ pieces_code xs r) (l ∷ pieces_code ys s)
      ∙ ap (λ o. ordering_then (atom_cmp a b) (ordering_then (nat_cmp k l) o)) (pieces_lex xs ys r s)
      ∙ ap (ordering_then (atom_cmp a b)) (sym (then_assoc (nat_cmp k l) (pieces_cmp xs ys) (lex r s)))
      ∙ sym (then_assoc (atom_cmp a b) (ordering_then (nat_cmp k l) (pieces_cmp xs ys)) (lex r s))

  pub atom_lex : (a b : PlainAtom) (r s : List ℕ)
      → slice_cmp nat_cmp (atom_code a r) (atom_code b s) ≡ ordering_then (atom_cmp a b) (slice_cmp nat_cmp r s)
  atom_lex (symbol s) (symbol t) r q =
      sym (then_assoc (nat_cmp (sym_rank s) (sym_rank t)) (nat_cmp (sym_number s) (sym_number t)) (lex r q))
  atom_lex (symbol s) (fitted g c) r q = refl
  atom_lex (symbol s) (paired p c d) r q = refl
  atom_lex (fitted f a) (symbol t) r q = refl
  atom_lex (fitted f a) (fitted g c) r q =
      ap (ordering_then (nat_cmp (fit_rank f) (fit_rank g))) (sum_lex a c r q)
      ∙ sym (then_assoc (nat_cmp (fit_rank f) (fit_rank g)) (sum_cmp a c) (lex r q))
  atom_lex (fitted f a) (paired p c d) r q = refl
  atom_lex (paired p a b) (symbol t) r q = refl
  atom_lex (paired p a b) (fitted g c) r q = refl
  atom_lex (paired p a b) (paired o c d) r q =
      let arguments = sum_lex a c (sum_code b r) (sum_code d q) ∙ ap (ordering_then (sum_cmp a c)) (sum_lex b d r q)
      ∙ sym (then_assoc (sum_cmp a c) (sum_cmp b d) (lex r q)) in
      ap (ordering_then (nat_cmp (pair_rank p) (pair_rank o))) arguments
      ∙ sym (then_assoc (nat_cmp (pair_rank p) (pair_rank o)) (ordering_then (sum_cmp a c) (sum_cmp b d)) (lex r q))

-- the symbol of a rank and a number
abbrev sym_of : ℕ → ℕ → Sym
sym_of zero n = Entry n
sym_of (suc zero) n = Ra
sym_of (suc (suc zero)) n = FsBase
sym_of (suc (suc (suc r))) n = Named n

-- rank and number give the symbol back
sym_back : (s : Sym) → sym_of (sym_rank s) (sym_number s) ≡ s
sym_back (Entry r) = refl
sym_back Ra = refl
sym_back FsBase = refl
sym_back (Named a) = refl

-- the fit at a place
abbrev fit_of : ℕ → Fit
fit_of zero = Zx8
fit_of (suc zero) = Zx16
fit_of (suc (suc zero)) = Zx32
fit_of (suc (suc (suc zero))) = Sx8
fit_of (suc (suc (suc (suc zero)))) = Sx16
fit_of (suc (suc (suc (suc (suc r))))) = Sx32

-- its place gives the fit back
fit_back : (f : Fit) → fit_of (fit_rank f) ≡ f
fit_back Zx8 = refl
fit_back Zx16 = refl
fit_back Zx32 = refl
fit_back Sx8 = refl
fit_back Sx16 = refl
fit_back Sx32 = refl

-- the pair at a place
abbrev pair_of : ℕ → Pair
pair_of zero = And
pair_of (suc zero) = Or
pair_of (suc (suc zero)) = Xor
pair_of (suc (suc (suc zero))) = Mul
pair_of (suc (suc (suc (suc zero)))) = Shr
pair_of (suc (suc (suc (suc (suc r))))) = Sar

-- its place gives the pair back
pair_back : (p : Pair) → pair_of (pair_rank p) ≡ p
pair_back And = refl
pair_back Or = refl
pair_back Xor = refl
pair_back Mul = refl
pair_back Shr = refl
pair_back Sar = refl

-- two orders are Equal together where both are
then_equal : (x y : Ordering) → ordering_then x y ≡ Equal → (x ≡ Equal) × (y ≡ Equal)
then_equal Less y e = absurd (cc)
then_equal Equal y e = (refl, e)
then_equal Greater y e = absurd (cc)

-- symbols that compare Equal are the same
pub sym_same : (s t : Sym) → sym_cmp s t ≡ Equal → s ≡ t
sym_same s t e =
    let both = then_equal (nat_cmp (sym_rank s) (sym_rank t)) (nat_cmp (sym_number s) (sym_number t)) e in
    sym (sym_back s)
    ∙ ap₂ sym_of (nat_cmp-IsAntisymmetric _ _ both.0) (nat_cmp-IsAntisymmetric _ _ both.1)
    ∙ sym_back t

-- fits that compare Equal are the same
fit_same : (f g : Fit) → nat_cmp (fit_rank f) (fit_rank g) ≡ Equal → f ≡ g
fit_same f g e = sym (fit_back f) ∙ ap fit_of (nat_cmp-IsAntisymmetric _ _ e) ∙ fit_back g

-- pairs that compare Equal are the same
pair_same : (p q : Pair) → nat_cmp (pair_rank p) (pair_rank q) ≡ Equal → p ≡ q
pair_same p q e = sym (pair_back p) ∙ ap pair_of (nat_cmp-IsAntisymmetric _ _ e) ∙ pair_back q

-- terms, pieces and atoms that compare Equal are the same
mutual
  pub sum_same : (a b : PlainSum) → sum_cmp a b ≡ Equal → a ≡ b
  sum_same (sum c xs) (sum d ys) e =
      let both = then_equal (nat_cmp c d) (pieces_cmp xs ys) e in
      λ i. sum (nat_cmp-IsAntisymmetric c d both.0 i) (pieces_same xs ys both.1 i)

  pub pieces_same : (xs ys : Summands) → pieces_cmp xs ys ≡ Equal → xs ≡ ys
  pieces_same none none e = refl
  pieces_same none (more b l ys) e = absurd (cc)
  pieces_same (more a k xs) none e = absurd (cc)
  pieces_same (more a k xs) (more b l ys) e =
      let first = then_equal (atom_cmp a b) (ordering_then (nat_cmp k l) (pieces_cmp xs ys)) e in
      let then' = then_equal (nat_cmp k l) (pieces_cmp xs ys) first.1 in
      λ i. more (atom_same a b first.0 i) (nat_cmp-IsAntisymmetric k l then'.0 i) (pieces_same xs ys then'.1 i)

  pub atom_same : (a b : PlainAtom) → atom_cmp a b ≡ Equal → a ≡ b
  atom_same (symbol s) (symbol t) e = ap symbol (sym_same s t e)
  atom_same (symbol s) (fitted g c) e = absurd (cc)
  atom_same (symbol s) (paired q c d) e = absurd (cc)
  atom_same (fitted f a) (symbol t) e = absurd (cc)
  atom_same (fitted f a) (fitted g c) e =
      let both = then_equal (nat_cmp (fit_rank f) (fit_rank g)) (sum_cmp a c) e in
      λ i. fitted (fit_same f g both.0 i) (sum_same a c both.1 i)
  atom_same (fitted f a) (paired q c d) e = absurd (cc)
  atom_same (paired p a b) (symbol t) e = absurd (cc)
  atom_same (paired p a b) (fitted g c) e = absurd (cc)
  atom_same (paired p a b) (paired q c d) e =
      let first = then_equal (nat_cmp (pair_rank p) (pair_rank q)) (ordering_then (sum_cmp a c) (sum_cmp b d)) e in
      let both = then_equal (sum_cmp a c) (sum_cmp b d) first.1 in
      λ i. paired (pair_same p q first.0 i) (sum_same a c both.0 i) (sum_same b d both.1 i)

-- an order, and then Equal, is that order
pub then_itself : (o : Ordering) → ordering_then o Equal ≡ o
then_itself Less = refl
then_itself Equal = refl
then_itself Greater = refl

-- terms with one list of numbers are the same
pub sum_code_inj : (a b : PlainSum) → sum_code a [] ≡ sum_code b [] → a ≡ b
sum_code_inj a b e =
    sum_same a b (sym (then_itself (sum_cmp a b)) ∙ sym (sum_lex a b [] [])
    ∙ ap (λ k. slice_cmp nat_cmp k (sum_code b [])) e ∙ tied_itself nat_list_cmp_total (sum_code b []))

-- how the logic keeps a term
abbrev pub coded_sum : Coded PlainSum
coded_sum = record {
  code = λ s. (coded_list coded_ℕ).code (sum_code s []);
  inj = λ a b e. sum_code_inj a b ((coded_list coded_ℕ).inj _ _ e);
}

-- the order of terms is total
pub sum_total : IsTotalOrder sum_cmp
sum_total = subst IsTotalOrder (λ i a b. (sum_lex a b [] [] ∙ then_itself (sum_cmp a b)) i) (on_texts (λ s. sum_code s []))

-- the order of pieces is total
pub pieces_total : IsTotalOrder pieces_cmp
pieces_total = subst IsTotalOrder (λ i a b. (pieces_lex a b [] [] ∙ then_itself (pieces_cmp a b)) i) (on_texts (λ a. pieces_code a []))

-- the order of atoms is total
pub atom_total : IsTotalOrder atom_cmp
atom_total = subst IsTotalOrder (λ i a b. (atom_lex a b [] [] ∙ then_itself (atom_cmp a b)) i) (on_texts (λ a. atom_code a []))
