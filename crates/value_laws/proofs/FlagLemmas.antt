-- What is known of the flags after an operation is true.
use Rattle.std.proofs.Common.{◌≡◌, ℕ, ◌<◌, Bool, false, Option, Some, None, refl, sym, ap₂, ◌∙◌, arith, get_or-set_same}
use Rattle.std.proofs.lemmas.Bool.Decides.{nat_tests}
use Rattle.std.proofs.lemmas.Int.{ints}
use Rattle.std.specs.Prelude.{IfSome, bit_and, bit_or, bit_xor}
use Rattle.std.specs.Option.{option_or, option_map}
use Rattle.bits_core.specs.declared.flags.Flags.{Flags}
use Rattle.bits_core.specs.declared.width.Width.{Width}
use Rattle.bits_core.specs.declared.width.Width.TheVariants.{W8, W16, W32, W64}
use Rattle.bits_core.specs.declared.operations.Alu.{Alu}
use Rattle.bits_core.specs.LowBits.{cut_of}
use Rattle.bits_core.specs.Arithmetic.{alu_of, flags_of, logical_of}
use Rattle.bits_core.specs.Arithmetic.{compared}
use Rattle.sym_terms.specs.Plain.{PlainSum}
use Rattle.sym_terms.specs.Value.{Valuation, IsInRange}
use Rattle.x86_instr.specs.declared.instr.Operand.{Operand}
use Rattle.x86_instr.specs.declared.instr.Instr.{Instr}
use Rattle.step_rules.specs.Terms.{number, zeros_term}
use Rattle.step_rules.specs.Names.{register_name}
use Rattle.step_rules.specs.Results.{comparison, name_result, alu_fact}
use Rattle.forest_meaning.specs.Holds.{Tells}
use Rattle.predicate_meaning.specs.Sat.{FactHolds}
use Rattle.value_laws.proofs.Ground.{Ground}
use Rattle.value_laws.proofs.MeansLemmas.{tells_as, tells_or, means_as, means_number, means_zeros}
use Rattle.value_laws.proofs.Scene.{OperandNameFits}
use Rattle.x86_machine.specs.State.{State, IsState, reg, with_reg}
use Rattle.x86_machine.specs.Access.{NamesRegisters, write, merged}
use Rattle.bits_core.specs.declared.operations.Alu.TheVariants as alu
use Rattle.x86_instr.specs.declared.instr.Operand.TheVariants as operand

-- a result bit by bit sets the flags of its comparison with 0
against_zero : (w : Width) (x : ℕ) → flags_of w (cut_of w x) false false ≡ compared w (cut_of w x) 0
against_zero W8 x = grind (arith, ints, nat_tests)
against_zero W16 x = grind (arith, ints, nat_tests)
against_zero W32 x = grind (arith, ints, nat_tests)
against_zero W64 x = grind (arith, ints, nat_tests)

-- the comparison of two terms with the numbers
fact_compared : (u : Valuation) (w : Width) (a b : Option PlainSum) (x y : ℕ) (flags : Flags) → flags ≡ compared w x y
    → Tells u a x → Tells u b y → IfSome (comparison w a b) (λ f. FactHolds flags u f)
fact_compared u w None b x y flags e h k = tt
fact_compared u w (Some a) None x y flags e h k = tt
fact_compared u w (Some a) (Some b) x y flags e h k = record {
  left = h.normal;
  right = k.normal;
  same = e ∙ ap₂ (compared w) (sym h.value) (sym k.value);
}

written32 : (s : State) (r n : ℕ) → IsState s → r < 16 → reg (with_reg s r (merged W32 (reg s r) n)) r ≡ cut_of W32 n
unfolding reg with_reg merged
written32 s r n is lt = get_or-set_same s.regs r _ 0 (omega (arith, is.count))

written64 : (s : State) (r n : ℕ) → IsState s → r < 16 → reg (with_reg s r (merged W64 (reg s r) n)) r ≡ cut_of W64 n
unfolding reg with_reg merged
written64 s r n is lt = get_or-set_same s.regs r _ 0 (omega (arith, is.count))

module _ (g : Ground) (u : Valuation) (range : IsInRange u) where
  name_zeros : (t : Option PlainSum) (n : ℕ) → Tells u t (cut_of W32 n) → Tells u (option_map (zeros_term W32) t) (cut_of W32 n)
  name_zeros None n h = tt
  name_zeros (Some t) n h = means_as u _ _ _ (g.cut.again W32 n) (means_zeros u g.normal (g.values u range) W32 t (cut_of W32 n) h)

  fact_result : (w : Width) (t name : Option PlainSum) (z : ℕ) → Tells u t (cut_of w (cut_of w z)) → Tells u name (cut_of w (cut_of w z))
      → IfSome (comparison w (option_or t name) (Some (number 0))) (λ f. FactHolds (logical_of w z).1 u f)
  fact_result w t name z h k =
      fact_compared u w (option_or t name) (Some (number 0)) (cut_of w z) 0 _ (against_zero w z)
      (tells_as u _ _ _ (g.cut.again w z) (tells_or u t name _ h k)) (means_number u g.normal (g.values u range) 0 (omega arith))

  -- the fact after an operation whose result, or the name in its place, is known
  pub fact_alu : (o : Alu) (i : Instr) (a b t : Option PlainSum) (x y : ℕ) (carry : Bool) → Tells u a x → Tells u b y
      → Tells u t (cut_of i.width (alu_of o i.width x y carry).0) → Tells u (name_result i i.width i.dst) (cut_of i.width (alu_of o i.width x y carry).0)
      → IfSome (alu_fact o i a b t) (λ f. FactHolds (alu_of o i.width x y carry).1 u f)
  unfolding alu_fact
  fact_alu alu.Sub i a b t x y carry h k r n = fact_compared u i.width a b x y _ refl h k
  fact_alu alu.And i a b t x y carry h k r n = fact_result i.width t _ (bit_and x y) r n
  fact_alu alu.Or i a b t x y carry h k r n = fact_result i.width t _ (bit_or x y) r n
  fact_alu alu.Xor i a b t x y carry h k r n = fact_result i.width t _ (bit_xor x y) r n
  fact_alu alu.Add i a b t x y carry h k r n = tt
  fact_alu alu.Adc i a b t x y carry h k r n = tt
  fact_alu alu.Sbb i a b t x y carry h k r n = tt

  -- the fact after neg
  pub fact_negated : (w : Width) (a : Option PlainSum) (x : ℕ) → Tells u a x → IfSome (comparison w (Some (number 0)) a) (λ f. FactHolds (alu_of alu.Sub w 0 x false).1 u f)
  fact_negated w a x h = fact_compared u w (Some (number 0)) a 0 x _ refl (means_number u g.normal (g.values u range) 0 (omega arith)) h

  -- the name in place of the result that a register of 32 or 64 bits took
  pub name_taken : (i : Instr) (s : State) (w : Width) (o : Operand) (n : ℕ) → IsState s → NamesRegisters o → OperandNameFits i u (write s w o n) o → Tells u (name_result i w o) (cut_of w n)
  unfolding write
  name_taken i s w operand.None n is f h = tt
  name_taken i s W8 (operand.Reg r) n is f h = tt
  name_taken i s W16 (operand.Reg r) n is f h = tt
  name_taken i s W32 (operand.Reg r) n is f h = name_zeros (register_name i r) n (tells_as u _ _ _ (written32 s r n is f) h)
  name_taken i s W64 (operand.Reg r) n is f h = tells_as u _ _ _ (written64 s r n is f) h
  name_taken i s w (operand.High r) n is f h = tt
  name_taken i s w (operand.Imm m) n is f h = tt
  name_taken i s w (operand.Mem pl) n is f h = tt
