-- The values of constants, symbols, multiples, fits and pairs.
use Rattle.std.proofs.Common.{◌≡◌, ℕ, ◌+◌, ◌*◌, ◌%◌, ◌^◌, ◌<◌, ◌≤◌, true, false, if◌then◌else◌, Option, Some, None, refl, sym, ap, ap₂, ◌∙◌, arith, bit_and, bit_or, bit_xor}
use Rattle.std.proofs.lemmas.Bool.Decides.{nat_tests}
use Rattle.std.proofs.Math.Nat.{mod-eq_of_lt, mod-lt, mul_comm}
use Rattle.std.proofs.Math.Pow.{pow_mono}
use Rattle.std.specs.Int.Bits.{and_self, or_self, xor_self}
use Rattle.std.specs.Ordering.{is_eq}
use Rattle.sym_terms.specs.declared.kinds.Sym.{Sym}
use Rattle.sym_terms.specs.declared.kinds.Sym.TheVariants.{Entry, Ra, FsBase, Named}
use Rattle.sym_terms.specs.declared.kinds.Fit.{Fit}
use Rattle.sym_terms.specs.declared.kinds.Pair.{Pair}
use Rattle.sym_terms.specs.declared.kinds.Pair.TheVariants.{And, Or, Xor, Mul, Shr, Sar}
use Rattle.sym_terms.specs.Plain.{PlainSum, sum, none, more, PlainAtom, symbol, fitted, paired, constant_alone, single_atom, IsSymbol}
use Rattle.sym_terms.specs.Order.{sum_cmp}
use Rattle.sym_terms.specs.Codes.{sum_same}
use Rattle.sym_terms.specs.Numbers.{fit_number, pair_number}
use Rattle.sym_terms.specs.Value.{Valuation, IsInRange, value, value_of_symbol, value_of_pieces, value_of_atom}
use Rattle.sym_terms.specs.Normal.{times, atom_bits, kept_bits, fit_is_identity, fit, fit_by, pair, pair_by, pair_alone, pair_scaled, IsNormal, IsNormalAtom}
use Rattle.sym_terms.proofs.NumberLemmas.{fit_number_below, pair_number_below}
use Rattle.sym_terms.proofs.AtomLemmas.{equal_from, constant_below}
use Rattle.term_laws.proofs.FitLemmas.{fit_number_bits, fit_number_same}
use Rattle.term_laws.proofs.SumValueLemmas.{plus_times_value}

module _ (u : Valuation) (range : IsInRange u) where
  -- every value has 64 bits
  pub value_below : (a : PlainSum) → value u a < 2 ^ 64
  value_below (sum c xs) = mod-lt (c + value_of_pieces u xs) (omega arith)

  -- so has that of a symbol
  symbol_below : (s : Sym) → IsSymbol s → value_of_symbol u s < 2 ^ 64
  symbol_below (Entry r) h = range.entries r h
  symbol_below Ra h = range.return_address
  symbol_below FsBase h = range.fs_base
  symbol_below (Named a) h = range.names a

  -- so has that of a normal atom
  atom_below : (a : PlainAtom) → IsNormalAtom a → value_of_atom u a < 2 ^ 64
  atom_below (symbol s) n = symbol_below s n
  atom_below (fitted f a) n = fit_number_below f (value u a)
  atom_below (paired p a b) n = pair_number_below p _ _ (value_below a) (value_below b)

  -- the value of an atom has no more bits than the atom
  atom_bits_below : (a : PlainAtom) → IsNormalAtom a → value_of_atom u a < 2 ^ atom_bits a
  atom_bits_below (symbol s) n = symbol_below s n
  atom_bits_below (fitted f a) n = fit_number_bits f (value u a)
  atom_bits_below (paired p a b) n = atom_below (paired p a b) n

  -- once a number is that number, modulo m
  one_piece : (v m : ℕ) → v < m → (0 + (1 * v + 0)) % m ≡ v
  one_piece v m h = let e : 0 + (1 * v + 0) ≡ v = omega arith in rw e (mod-eq_of_lt h)

  -- one atom has the atom's value
  pub alone_value : (a : PlainAtom) → value_of_atom u a < 2 ^ 64 → value u (single_atom a) ≡ value_of_atom u a
  alone_value a h = one_piece (value_of_atom u a) (2 ^ 64) h

  -- a symbol alone has its value
  pub symbol_value : (s : Sym) → IsSymbol s → value u (single_atom (symbol s)) ≡ value_of_symbol u s
  symbol_value s h = alone_value (symbol s) (symbol_below s h)

  -- a constant has its own value
  pub number_value : (n : ℕ) → n < 2 ^ 64 → value u (sum n none) ≡ n
  number_value n h = let e : n + 0 ≡ n = omega arith in rw e (mod-eq_of_lt h)

  -- a term that is a constant has that value
  pub constant_value : (a : PlainSum) (x : ℕ) → IsNormal a → constant_alone a ≡ Some x → value u a ≡ x
  constant_value (sum c none) x n e = let f : c ≡ x = cc in number_value c n.0 ∙ f
  constant_value (sum c (more b k xs)) x n e = absurd (cc)

  -- a term that stays under a fit has a value that the fit keeps
  stays_value : (f : Fit) (a : PlainSum) → IsNormal a → fit_is_identity f a ≡ true → value u a ≡ fit_number f (value u a)
  stays_value f (sum c none) n e = absurd (cc)
  stays_value f (sum c (more a k none)) n e =
      let zeroes : c ≡ 0 = grind (arith, nat_tests) in
      let ones : k ≡ 1 = grind (arith, nat_tests) in
      let short : atom_bits a ≤ kept_bits f = grind (arith, nat_tests) in
      let v : value u (sum c (more a k none)) ≡ value_of_atom u a =
      ap₂ (λ m n. value u (sum m (more a n none))) zeroes ones ∙ alone_value a (atom_below a n.1.0) in
      let wide : 2 ^ atom_bits a ≤ 2 ^ kept_bits f = pow_mono {i = atom_bits a} {j = kept_bits f} short in
      let below : value_of_atom u a < 2 ^ kept_bits f = omega (arith, atom_bits_below a n.1.0) in
      rw v (sym (fit_number_same f (value_of_atom u a) below))
  stays_value f (sum c (more a k (more b l ys))) n e = absurd (cc)

  -- a fit has its value, whatever is constant
  fit_by_value : (f : Fit) (m : Option ℕ) (a : PlainSum) → IsNormal a → constant_alone a ≡ m → value u (fit_by f m a) ≡ fit_number f (value u a)
  fit_by_value f (Some c) a n e = number_value _ (fit_number_below f c) ∙ ap (fit_number f) (sym (constant_value a c n e))
  fit_by_value f None a n e =
      (elim (fit_is_identity f a) as (λ t. fit_is_identity f a ≡ t → value u (if t then a else single_atom (fitted f a)) ≡ fit_number f (value u a)) [
        | true ↦ λ h. stays_value f a n h
        | false ↦ λ h. alone_value (fitted f a) (fit_number_below f (value u a))
      ]) refl

  -- a fit has the value of its argument, fitted
  pub fit_value : (f : Fit) (a : PlainSum) → IsNormal a → value u (fit f a) ≡ fit_number f (value u a)
  unfolding fit
  fit_value f a n = fit_by_value f (constant_alone a) a n refl

  -- an atom of a pair has the value of the pair
  paired_value : (p : Pair) (a b : PlainSum) → value u (single_atom (paired p a b)) ≡ pair_number p (value u a) (value u b)
  paired_value p a b = alone_value (paired p a b) (pair_number_below p _ _ (value_below a) (value_below b))

  -- so has either result where the equal terms have that value
  either_value : (p : Pair) (a b c : PlainSum) → (a ≡ b → value u c ≡ pair_number p (value u a) (value u b))
      → value u (if is_eq (sum_cmp a b) then c else single_atom (paired p a b)) ≡ pair_number p (value u a) (value u b)
  either_value p a b c same =
      (elim (is_eq (sum_cmp a b)) as (λ t. is_eq (sum_cmp a b) ≡ t → value u (if t then c else single_atom (paired p a b)) ≡ pair_number p (value u a) (value u b)) [
        | true ↦ λ h. same (sum_same a b (equal_from _ h))
        | false ↦ λ h. paired_value p a b
      ]) refl

  -- a pair without a constant has its value
  pair_alone_value : (p : Pair) (a b : PlainSum) → value u (pair_alone p a b) ≡ pair_number p (value u a) (value u b)
  pair_alone_value And a b = either_value And a b a (λ e. sym (ap (λ c. bit_and (value u a) (value u c)) (sym e) ∙ and_self (value u a)))
  pair_alone_value Or a b = either_value Or a b a (λ e. sym (ap (λ c. bit_or (value u a) (value u c)) (sym e) ∙ or_self (value u a)))
  pair_alone_value Xor a b = either_value Xor a b (sum 0 none) (λ e. sym (ap (λ c. bit_xor (value u a) (value u c)) (sym e) ∙ xor_self (value u a)))
  pair_alone_value Mul a b = paired_value Mul a b
  pair_alone_value Shr a b = paired_value Shr a b
  pair_alone_value Sar a b = paired_value Sar a b

  -- a multiple has the multiple of the value
  pub times_value : (x : ℕ) (a : PlainSum) → value u (times x a) ≡ x * value u a % 2 ^ 64
  times_value x a =
      plus_times_value u (sum 0 none) x a ∙ ap (λ n. n % 2 ^ 64) (let e : 0 + x * value u a ≡ x * value u a = omega arith in e)

  -- the constant is the first of the pair, or the second
  left_value : (p : Pair) (x : ℕ) (a b : PlainSum) → value u a ≡ x → value u (pair_scaled p x b a b) ≡ pair_number p (value u a) (value u b)
  left_value And x a b e = pair_alone_value And a b
  left_value Or x a b e = pair_alone_value Or a b
  left_value Xor x a b e = pair_alone_value Xor a b
  left_value Mul x a b e = times_value x b ∙ ap (λ n. n * value u b % 2 ^ 64) (sym e)
  left_value Shr x a b e = pair_alone_value Shr a b
  left_value Sar x a b e = pair_alone_value Sar a b

  -- the constant is the second of the pair
  right_value : (p : Pair) (y : ℕ) (a b : PlainSum) → value u b ≡ y → value u (pair_scaled p y a a b) ≡ pair_number p (value u a) (value u b)
  right_value And y a b e = pair_alone_value And a b
  right_value Or y a b e = pair_alone_value Or a b
  right_value Xor y a b e = pair_alone_value Xor a b
  right_value Mul y a b e = times_value y a ∙ ap (λ n. n % 2 ^ 64) (mul_comm y (value u a) ∙ ap (λ n. value u a * n) (sym e))
  right_value Shr y a b e = pair_alone_value Shr a b
  right_value Sar y a b e = pair_alone_value Sar a b

  -- each pair has its value, whatever is constant
  pair_by_value : (p : Pair) (m n : Option ℕ) (a b : PlainSum) → IsNormal a → IsNormal b → constant_alone a ≡ m → constant_alone b ≡ n → value u (pair_by p m n a b) ≡ pair_number p (value u a) (value u b)
  pair_by_value p (Some x) (Some y) a b na nb e f =
      number_value _ (pair_number_below p x y (constant_below a x na e) (constant_below b y nb f))
      ∙ ap₂ (pair_number p) (sym (constant_value a x na e)) (sym (constant_value b y nb f))
  pair_by_value p (Some x) None a b na nb e f = left_value p x a b (constant_value a x na e)
  pair_by_value p None (Some y) a b na nb e f = right_value p y a b (constant_value b y nb f)
  pair_by_value p None None a b na nb e f = pair_alone_value p a b

  -- a pair has the value of its arguments, combined
  pub pair_value : (p : Pair) (a b : PlainSum) → IsNormal a → IsNormal b → value u (pair p a b) ≡ pair_number p (value u a) (value u b)
  unfolding pair
  pair_value p a b na nb = pair_by_value p (constant_alone a) (constant_alone b) a b na nb refl refl
