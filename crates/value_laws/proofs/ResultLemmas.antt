-- The results of operations on known operands are known.
use Rattle.std.proofs.Common.{◌≡◌, ℕ, ◌+◌, ◌-◌, ◌*◌, ◌/◌, ◌%◌, ◌^◌, ◌<◌, Bool, true, false, cond, ltb, Option, None, refl, sym, ap, ◌∙◌, arith}
use Rattle.std.proofs.Math.Nat.{mod-eq_of_lt, mul_comm}
use Rattle.std.proofs.lemmas.Bool.{ltb-true}
use Rattle.std.specs.Prelude.{bit_and, bit_or, bit_xor}
use Rattle.bits_core.specs.declared.width.Width.{Width}
use Rattle.bits_core.specs.declared.width.Width.TheVariants.{W8, W16, W32, W64}
use Rattle.bits_core.specs.declared.operations.Alu.{Alu}
use Rattle.bits_core.specs.declared.operations.Shift.{Shift}
use Rattle.bits_core.specs.Width.{bits_of}
use Rattle.bits_core.specs.LowBits.{cut_of, sext_of}
use Rattle.bits_core.specs.Arithmetic.{alu_of, difference_of}
use Rattle.bits_core.specs.Shifts.{shift_of, shifted_by, count_modulus}
use Rattle.bits_core.specs.Wide.{product_of}
use Rattle.sym_terms.specs.declared.kinds.Pair.TheVariants.{And, Or, Xor, Mul, Shr, Sar}
use Rattle.sym_terms.specs.Plain.{PlainSum}
use Rattle.sym_terms.specs.Normal.{plus, minus, times, pair}
use Rattle.sym_terms.specs.Value.{Valuation, IsInRange}
use Rattle.term_laws.specs.Laws.{ValueLaws}
use Rattle.x86_instr.specs.declared.instr.Operand.{Operand}
use Rattle.step_rules.specs.Terms.{number, cut_term, sext_term}
use Rattle.step_rules.specs.Results.{whole_term, alu_term, negative, negated_term, inverted_term, product_term, shifted_term, shift_term}
use Rattle.forest_meaning.specs.Holds.{Tells}
use Rattle.value_laws.proofs.Ground.{Ground}
use Rattle.value_laws.proofs.MeansLemmas.{tells_as, tells_one, tells_both, means_number, means_plus, means_minus, means_times, means_pair, tells_cut, tells_signed}
use Rattle.bits_core.specs.declared.operations.Alu.TheVariants as alu
use Rattle.bits_core.specs.declared.operations.Shift.TheVariants as shift
use Rattle.x86_instr.specs.declared.instr.Operand.TheVariants as operand

-- sums and differences modulo 2^64 have the same low bits
cut_wrapped : (w : Width) (x : ℕ) → cut_of w (x % 2 ^ 64) ≡ cut_of w x
cut_wrapped W8 x = omega arith
cut_wrapped W16 x = omega arith
cut_wrapped W32 x = omega arith
cut_wrapped W64 x = omega arith

cut_difference : (w : Width) (x y d : ℕ) → y < 2 ^ 64 → cut_of w (d + y + 0) ≡ cut_of w x → cut_of w ((x + (2 ^ 64 - y)) % 2 ^ 64) ≡ cut_of w d
cut_difference W8 x y d h e = omega arith
cut_difference W16 x y d h e = omega arith
cut_difference W32 x y d h e = omega arith
cut_difference W64 x y d h e = omega arith

module _ (g : Ground) (u : Valuation) (range : IsInRange u) where
  values : ValueLaws u
  values = g.values u range

  cut_tells : (w : Width) (t : Option PlainSum) (m n : ℕ) → Tells u t m → cut_of w m ≡ cut_of w n → Tells u (cut_term w t) (cut_of w n)
  cut_tells w t m n h e = tells_as u (cut_term w t) (cut_of w m) (cut_of w n) e (tells_cut u g.normal values w t m h)

  pub tells_alu : (o : Alu) (w : Width) (a b : Option PlainSum) (x y : ℕ) (carry : Bool) → y < 2 ^ 64 → Tells u a x → Tells u b y
      → Tells u (alu_term o w a b) (cut_of w (alu_of o w x y carry).0)
  unfolding alu_term whole_term
  tells_alu alu.Add w a b x y carry small h k =
      cut_tells w _ ((x + y) % 2 ^ 64) _ (tells_both u plus a b x y _ (λ s t. means_plus u g.normal values s t x y) h k)
      (cut_wrapped w (x + y) ∙ ap (cut_of w) (let e : x + y ≡ x + y + 0 = omega arith in e) ∙ sym (g.cut.again w (x + y + 0)) ∙ sym (ap (cut_of w) (g.sums.sum w x y false)))
  tells_alu alu.Sub w a b x y carry small h k =
      cut_tells w _ ((x + (2 ^ 64 - y)) % 2 ^ 64) _ (tells_both u minus a b x y _ (λ s t. means_minus u g.normal values s t x y) h k)
      (cut_difference w x y (difference_of w x y false).0 small (g.sums.difference w x y false))
  tells_alu alu.And w a b x y carry small h k =
      cut_tells w _ (bit_and x y) _ (tells_both u (pair And) a b x y _ (λ s t. means_pair u g.normal values And s t x y) h k) (sym (g.cut.again w (bit_and x y)))
  tells_alu alu.Or w a b x y carry small h k =
      cut_tells w _ (bit_or x y) _ (tells_both u (pair Or) a b x y _ (λ s t. means_pair u g.normal values Or s t x y) h k) (sym (g.cut.again w (bit_or x y)))
  tells_alu alu.Xor w a b x y carry small h k =
      cut_tells w _ (bit_xor x y) _ (tells_both u (pair Xor) a b x y _ (λ s t. means_pair u g.normal values Xor s t x y) h k) (sym (g.cut.again w (bit_xor x y)))
  tells_alu alu.Adc w a b x y carry small h k = tt
  tells_alu alu.Sbb w a b x y carry small h k = tt

  negated_low : (w : Width) (x d : ℕ) → cut_of w (d + x + 0) ≡ cut_of w 0 → cut_of w ((2 ^ 64 - 1) * x % 2 ^ 64) ≡ cut_of w d
  negated_low W8 x d e = omega arith
  negated_low W16 x d e = omega arith
  negated_low W32 x d e = omega arith
  negated_low W64 x d e = omega arith

  inverted_low : (w : Width) (x d : ℕ) → cut_of w (d + x + 0) ≡ cut_of w (2 ^ 64 - 1) → cut_of w (((2 ^ 64 - 1) * x % 2 ^ 64 + (2 ^ 64 - 1)) % 2 ^ 64) ≡ cut_of w d
  inverted_low W8 x d e = omega arith
  inverted_low W16 x d e = omega arith
  inverted_low W32 x d e = omega arith
  inverted_low W64 x d e = omega arith

  pub tells_negated : (w : Width) (a : Option PlainSum) (x : ℕ) → Tells u a x → Tells u (negated_term w a) (cut_of w (alu_of alu.Sub w 0 x false).0)
  unfolding negated_term
  tells_negated w a x h =
      cut_tells w _ ((2 ^ 64 - 1) * x % 2 ^ 64) _ (tells_one u (times (2 ^ 64 - 1)) a x _ (λ t. means_times u g.normal values (2 ^ 64 - 1) t x) h)
      (negated_low w x (difference_of w 0 x false).0 (g.sums.difference w 0 x false))

  pub tells_inverted : (w : Width) (a : Option PlainSum) (x : ℕ) → Tells u a x → Tells u (inverted_term w a) (cut_of w (alu_of alu.Sub w (2 ^ 64 - 1) x false).0)
  unfolding inverted_term
  tells_inverted w a x h =
      cut_tells w _ (((2 ^ 64 - 1) * x % 2 ^ 64 + (2 ^ 64 - 1)) % 2 ^ 64) _
      (tells_one u (λ t. minus t (number 1)) (negative a) ((2 ^ 64 - 1) * x % 2 ^ 64) _ (λ t m. means_minus u g.normal values t (number 1) _ 1 m (means_number u g.normal values 1 (omega arith)))
      (tells_one u (times (2 ^ 64 - 1)) a x _ (λ t. means_times u g.normal values (2 ^ 64 - 1) t x) h))
      (inverted_low w x (difference_of w (2 ^ 64 - 1) x false).0 (g.sums.difference w (2 ^ 64 - 1) x false))

  pub tells_product : (w : Width) (a b : Option PlainSum) (x y : ℕ) → Tells u a x → Tells u b y → Tells u (product_term w a b) (cut_of w (product_of w true x y).0)
  unfolding product_term
  tells_product w a b x y h k =
      cut_tells w _ (x * y % 2 ^ 64) _ (tells_both u (pair Mul) a b x y _ (λ s t. means_pair u g.normal values Mul s t x y) h k)
      (cut_wrapped w (x * y) ∙ sym (g.cut.again w (x * y)) ∙ sym (ap (cut_of w) (g.products.low w true x y)))

  -- shifts by a count k below the width
  tells_shifted : (o : Shift) (w : Width) (a : Option PlainSum) (x k : ℕ) → k < bits_of w → k < 64 → x < 2 ^ 64 → cut_of w x ≡ x → Tells u a x
      → Tells u (shifted_term o w a k) (cut_of w (shift_of o w x k))
  tells_shifted shift.Shl w a x k lt small fits low h =
      cut_tells w _ (2 ^ k * x % 2 ^ 64) _ (tells_one u (times (2 ^ k)) a x _ (λ t. means_times u g.normal values (2 ^ k) t x) h)
      (cut_wrapped w (2 ^ k * x) ∙ ap (cut_of w) (mul_comm (2 ^ k) x) ∙ sym (g.cut.again w (x * 2 ^ k)) ∙ sym (ap (cut_of w) (g.shifts.left w x k lt)))
  tells_shifted shift.Shr w a x k lt small fits low h =
      cut_tells w _ (shift_of shift.Shr W64 x k) _ (tells_one u (λ t. pair Shr t (number k)) a x _ (λ t m. means_pair u g.normal values Shr t (number k) x k m (means_number u g.normal values k (omega arith))) h)
      (ap (cut_of w) (g.shifts.right W64 x k small ∙ ap (λ y. y / 2 ^ k) (mod-eq_of_lt fits ∙ sym low) ∙ sym (g.shifts.right w x k lt)))
  tells_shifted shift.Sar w a x k lt small fits low h =
      cut_tells w _ (shift_of shift.Sar W64 (sext_of w x) k) _ (tells_one u (λ t. pair Sar t (number k)) (sext_term w a) (sext_of w x) _ (λ t m. means_pair u g.normal values Sar t (number k) (sext_of w x) k m (means_number u g.normal values k (omega arith))) (tells_signed u g.normal values g.sext w a x h))
      (sym (g.cut.again w _) ∙ ap (cut_of w) (g.shifts.extended w x k lt))
  tells_shifted shift.Rol w a x k lt small fits low h = tt
  tells_shifted shift.Ror w a x k lt small fits low h = tt

  same_count : (w : Width) (n : ℕ) → n % count_modulus w % count_modulus w ≡ cut_of W8 n % count_modulus w
  same_count W8 n = omega arith
  same_count W16 n = omega arith
  same_count W32 n = omega arith
  same_count W64 n = omega arith

  low_count : (w : Width) (n : ℕ) → n % count_modulus w < 64
  low_count W8 n = omega arith
  low_count W16 n = omega arith
  low_count W32 n = omega arith
  low_count W64 n = omega arith

  by_immediate : (o : Shift) (w : Width) (a : Option PlainSum) (x n : ℕ) (b : Bool) → ltb (n % count_modulus w) (bits_of w) ≡ b → x < 2 ^ 64 → cut_of w x ≡ x → Tells u a x
      → Tells u (cond b (shifted_term o w a (n % count_modulus w)) None) (cut_of w (shift_of o w x (cut_of W8 n)))
  by_immediate o w a x n false e fits low h = tt
  by_immediate o w a x n true e fits low h =
      tells_as u _ _ _ (ap (λ c. cut_of w (shifted_by o w x c)) (same_count w n))
      (tells_shifted o w a x (n % count_modulus w) (ltb-true _ _ e) (low_count w n) fits low h)

  pub tells_shift : (o : Shift) (w : Width) (a : Option PlainSum) (x c : ℕ) (count : Operand) → x < 2 ^ 64 → cut_of w x ≡ x → Tells u a x
      → ((n : ℕ) → count ≡ operand.Imm n → c ≡ cut_of W8 n) → Tells u (shift_term o w a count) (cut_of w (shift_of o w x c))
  unfolding shift_term
  tells_shift o w a x c operand.None fits low h e = tt
  tells_shift o w a x c (operand.Reg r) fits low h e = tt
  tells_shift o w a x c (operand.High r) fits low h e = tt
  tells_shift o w a x c (operand.Imm n) fits low h e =
      tells_as u _ _ _ (ap (λ c. cut_of w (shift_of o w x c)) (sym (e n refl))) (by_immediate o w a x n _ refl fits low h)
  tells_shift o w a x c (operand.Mem pl) fits low h e = tt
