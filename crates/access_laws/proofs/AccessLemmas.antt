-- Registers, flags and rip of a state and of what is known of it; operands that are no places in memory.
use Rattle.std.proofs.Common.{◌≡◌, ℕ, zero, suc, ◌/◌, ◌%◌, ◌^◌, ◌<◌, inl, inr, Bool, true, false, cond, eqb, Option, Some, None, List, [], ◌∷◌, length, get_or, set, refl, sym, ap, subst, ◌∙◌, arith, get_or-set_same, get_or-set_other}
use Rattle.std.proofs.lemmas.Bool.{cases_eq, eqb-true}
use Rattle.std.proofs.lemmas.Nat.{pow_pos}
use Rattle.std.specs.Prelude.{IfSome}
use Rattle.bits_core.specs.declared.flags.Flags.{Flags}
use Rattle.bits_core.specs.declared.width.Width.{Width}
use Rattle.bits_core.specs.declared.width.Width.TheVariants.{W8, W16, W32, W64}
use Rattle.bits_core.specs.Width.{bits_of}
use Rattle.bits_core.specs.LowBits.{cut_of}
use Rattle.sym_terms.specs.declared.kinds.Fit.TheVariants.{Zx8}
use Rattle.sym_terms.specs.declared.kinds.Pair.TheVariants.{Shr}
use Rattle.sym_terms.specs.Plain.{PlainSum}
use Rattle.sym_terms.specs.Normal.{fit, pair}
use Rattle.sym_terms.specs.Value.{Valuation}
use Rattle.term_laws.specs.Laws.{ValueLaws}
use Rattle.predicates.specs.declared.bound.FlagFact.{FlagFact}
use Rattle.predicates.specs.Predicate.{Predicate}
use Rattle.x86_instr.specs.declared.instr.Operand.{Operand}
use Rattle.x86_instr.specs.declared.instr.Instr.{Instr}
use Rattle.x86_instr.specs.Kinds.{Kinds}
use Rattle.x86_instr.specs.Fits.{IsOperand, is_place}
use Rattle.x86_machine.specs.State.{State, IsState, reg, with_reg, with_flags, with_rip}
use Rattle.x86_machine.specs.Access.{read, write, merged, NamesRegisters}
use Rattle.x86_machine.specs.Named.{Name, Loaded, Register, Stored, Nothing, names, value_of}
use Rattle.step_rules.specs.View.{View}
use Rattle.step_rules.specs.Terms.{number}
use Rattle.step_rules.specs.Names.{name_term, register_name, if_register}
use Rattle.predicate_meaning.specs.Sat.{register, FactHolds, Sat}
use Rattle.step_rules.specs.Access.{with_register, known_term, address_term_of, read_term, after_read, merged_term, write_term}
use Rattle.step_rules.specs.Steps.{with_flags as with_fact}
use Rattle.forest_meaning.specs.Holds.{Tells}
use Rattle.value_laws.proofs.Ground.{Ground}
use Rattle.value_laws.proofs.Scene.{Scene, Reads, NameFits, OperandNameFits, Writes}
use Rattle.value_laws.proofs.MeansLemmas.{tells_as, tells_or, tells_one, means_fit, means_pair, means_number, means_symbol, means_as, tells_cut}
use Rattle.x86_instr.specs.declared.instr.Operand.TheVariants as operand

-- rip is no part of what is known
pub sat_rip : (p : Predicate) (s : State) (at : ℕ) (u : Valuation) → Sat p s u → Sat p (with_rip s at) u
unfolding with_rip reg
sat_rip p s at u h = record { range = h.range; fs_base = h.fs_base; registers = h.registers; flags = h.flags; bounds = h.bounds; forest = h.forest }

-- other flags, and a fact that is true of them
pub sat_flags : (p : Predicate) (s : State) (u : Valuation) (fact : Option FlagFact) (flags : Flags)
    → IfSome fact (λ f. FactHolds flags u f) → Sat p s u → Sat (with_fact p fact) (with_flags s flags) u
unfolding with_flags reg with_fact register
sat_flags p s u fact flags k h = record { range = h.range; fs_base = h.fs_base; registers = h.registers; flags = k; bounds = h.bounds; forest = h.forest }

pub set_here : (u : Valuation) (ts : List (Option PlainSum)) (r : ℕ) (t : Option PlainSum) (n : ℕ) → Tells u t n → Tells u (get_or (set ts r t) r None) n
set_here u [] r t n h = tt
set_here u (x ∷ ts) zero t n h = h
set_here u (x ∷ ts) (suc r) t n h = set_here u ts r t n h

-- another number in a register, and a term that has it
pub sat_register : (p : Predicate) (s : State) (u : Valuation) (r : ℕ) (t : Option PlainSum) (n : ℕ)
    → IsState s → r < 16 → Tells u t n → Sat p s u → Sat (with_register p r t) (with_reg s r n) u
unfolding with_reg reg with_register register
sat_register p s u r t n is lt k h = record {
  range = h.range;
  fs_base = h.fs_base;
  registers = λ q. elim (cases_eq q r) as (λ _. Tells u (get_or (set p.regs r t) q None) (get_or (set s.regs r n) q 0)) [
    | inl e ↦ subst (λ x. Tells u (get_or (set p.regs r t) x None) (get_or (set s.regs r n) x 0)) (sym e)
        (tells_as u _ n _ (sym (get_or-set_same s.regs r n 0 (let small : r < length s.regs = omega (arith, is.count) in small))) (set_here u p.regs r t n k))
    | inr ne ↦ subst (λ x. Tells u x (get_or (set s.regs r n) q 0)) (sym (get_or-set_other p.regs r q t None ne))
        (tells_as u _ _ _ (sym (get_or-set_other s.regs r q n 0 ne)) (h.registers q))
  ];
  flags = h.flags;
  bounds = h.bounds;
  forest = h.forest;
}

-- another term that has a register's number
pub sat_term : (p : Predicate) (s : State) (u : Valuation) (r : ℕ) (t : Option PlainSum) → Tells u t (reg s r) → Sat p s u → Sat (with_register p r t) s u
unfolding with_register register
sat_term p s u r t k h = record {
  range = h.range;
  fs_base = h.fs_base;
  registers = λ q. elim (cases_eq q r) as (λ _. Tells u (get_or (set p.regs r t) q None) (reg s q)) [
    | inl e ↦ subst (λ x. Tells u (get_or (set p.regs r t) x None) (reg s x)) (sym e) (set_here u p.regs r t (reg s r) k)
    | inr ne ↦ subst (λ x. Tells u x (reg s q)) (sym (get_or-set_other p.regs r q t None ne)) (h.registers q)
  ];
  flags = h.flags;
  bounds = h.bounds;
  forest = h.forest;
}

pub reg_below : (s : State) (r : ℕ) → IsState s → reg s r < 2 ^ 64
unfolding reg
reg_below s r is = is.regs r

below_quad : (w : Width) (m : ℕ) → m < 2 ^ bits_of w → m < 2 ^ 64
below_quad W8 m h = omega arith
below_quad W16 m h = omega arith
below_quad W32 m h = omega arith
below_quad W64 m h = h

module _ (g : Ground) (v : View) (i : Instr) (s t : State) (u : Valuation) (scene : Scene i s t u) where
  values : ValueLaws u
  values = g.values u scene.range

  name_if : (q r : ℕ) (b : Bool) → eqb r q ≡ b → u.named i.addr ≡ reg t q → Tells u (cond b (Some (name_term i)) None) (reg t r)
  name_if q r false e h = tt
  name_if q r true e h =
      let same : q ≡ r = sym (eqb-true r q e) in
      means_as u (name_term i) (u.named i.addr) (reg t r) (h ∙ ap (reg t) same) (means_symbol u g.normal values _ scene.form.addr)

  name_by : (n : Name) (r : ℕ) → IfSome (value_of n s i t) (λ n. u.named i.addr ≡ n) → Tells u (if_register n r (name_term i)) (reg t r)
  name_by Loaded r h = tt
  name_by (Register q) r h = name_if q r (eqb r q) refl h
  name_by Stored r h = tt
  name_by Nothing r h = tt

  -- the name is true of the register for which it stands
  pub name_fits : (r : ℕ) → NameFits i u t r
  name_fits r = name_by (names i) r scene.named

  shifted_byte : (x : ℕ) → x < 2 ^ 64 → cut_of W8 (cut_of W64 x / 2 ^ 8) ≡ x / 256 % 256
  shifted_byte x h = omega arith

  known_operand : (p : Predicate) (w : Width) (o : Operand) (k : Kinds) → is_place o ≡ false → IsOperand k w o → Sat p s u → Tells u (known_term v i p w o) (read s w o)
  unfolding known_term read
  known_operand p w operand.None k n f h = tt
  known_operand p w (operand.Reg r) k n f h = tells_cut u g.normal values w (register p r) (reg s r) (h.registers r)
  known_operand p w (operand.High r) k n f h =
      tells_as u _ _ (reg s r / 256 % 256) (ap (cut_of W8) (g.shifts.right W64 (reg s r) 8 (omega arith)) ∙ shifted_byte (reg s r) (reg_below s r scene.before))
      (tells_one u (fit Zx8) _ _ _ (λ a. means_fit u g.normal values Zx8 a _)
      (tells_one u (λ t. pair Shr t (number 8)) (register p r) (reg s r) _ (λ a m. means_pair u g.normal values Shr a (number 8) (reg s r) 8 m (means_number u g.normal values 8 (omega arith))) (h.registers r)))
  known_operand p w (operand.Imm m) k n f h = means_number u g.normal values m (below_quad w m f.1)
  known_operand p w (operand.Mem pl) k n f h = absurd (cc)

  read_operand : (p : Predicate) (w : Width) (o : Operand) (k : Kinds) → is_place o ≡ false → IsOperand k w o → Sat p s u → Tells u (read_term v i p w o) (read s w o)
  unfolding read_term
  read_operand p w operand.None k n f h = tells_or u (known_term v i p w operand.None) None _ (known_operand p w operand.None k n f h) tt
  read_operand p w (operand.Reg r) k n f h = tells_or u (known_term v i p w (operand.Reg r)) None _ (known_operand p w (operand.Reg r) k n f h) tt
  read_operand p w (operand.High r) k n f h = tells_or u (known_term v i p w (operand.High r)) None _ (known_operand p w (operand.High r) k n f h) tt
  read_operand p w (operand.Imm m) k n f h = tells_or u (known_term v i p w (operand.Imm m)) None _ (known_operand p w (operand.Imm m) k n f h) tt
  read_operand p w (operand.Mem pl) k n f h = absurd (cc)

  read_fits : (w : Width) (o : Operand) (k : Kinds) → is_place o ≡ false → IsOperand k w o → read s w o < 2 ^ bits_of w
  unfolding read
  read_fits w operand.None k n f = pow_pos (bits_of w)
  read_fits w (operand.Reg r) k n f = g.cut.below w (reg s r)
  read_fits w (operand.High r) k n f = subst (λ w. reg s r / 256 % 256 < 2 ^ bits_of w) (sym f.1) (omega arith)
  read_fits w (operand.Imm m) k n f = f.1
  read_fits w (operand.Mem pl) k n f = absurd (cc)

  read_loads : (p : Predicate) (w : Width) (o : Operand) → is_place o ≡ false → Sat p s u → Sat (after_read v i p w o) s u
  unfolding after_read address_term_of
  read_loads p w operand.None n h = h
  read_loads p w (operand.Reg r) n h = h
  read_loads p w (operand.High r) n h = h
  read_loads p w (operand.Imm m) n h = h
  read_loads p w (operand.Mem pl) n h = absurd (cc)

  -- an operand that is no place in memory
  pub reads : (w : Width) (o : Operand) (k : Kinds) → is_place o ≡ false → IsOperand k w o → Reads v i s u w o
  reads w o k n f = record {
    known = λ p h. known_operand p w o k n f h;
    value = λ p h. read_operand p w o k n f h;
    fits = read_fits w o k n f;
    loads = λ p h. read_loads p w o n h;
  }

module _ (v : View) (i : Instr) (s : State) (u : Valuation) (is : IsState s) where
  taken_fits : (r : ℕ) (w : Width) (t : Option PlainSum) (m : ℕ) → Tells u t (cut_of w m) → Tells u (register_name i r) (merged w (reg s r) m) → Tells u (merged_term i r w t) (merged w (reg s r) m)
  unfolding merged_term merged
  taken_fits r W8 t m h k = k
  taken_fits r W16 t m h k = k
  taken_fits r W32 t m h k = tells_or u t (register_name i r) _ h k
  taken_fits r W64 t m h k = tells_or u t (register_name i r) _ h k

  taken_stays : (r : ℕ) (w : Width) (n : ℕ) → Tells u (register_name i r) n → Tells u (merged_term i r w None) n
  unfolding merged_term
  taken_stays r W8 n k = k
  taken_stays r W16 n k = k
  taken_stays r W32 n k = k
  taken_stays r W64 n k = k

  written : (r x : ℕ) → r < 16 → reg (with_reg s r x) r ≡ x
  unfolding reg with_reg
  written r x lt = get_or-set_same s.regs r x 0 (omega (arith, is.count))

  write_operand : (p : Predicate) (w : Width) (o : Operand) (t : Option PlainSum) (m : ℕ) → is_place o ≡ false → NamesRegisters o
      → Sat p s u → Tells u t (cut_of w m) → OperandNameFits i u (write s w o m) o → Sat (write_term v i p w o t) (write s w o m) u
  unfolding write_term write
  write_operand p w operand.None t m n f h e name = h
  write_operand p w (operand.Reg r) t m n f h e name =
      sat_register p s u r _ _ is f (taken_fits r w t m e (tells_as u (register_name i r) _ _ (written r _ f) name)) h
  write_operand p w (operand.High r) t m n f h e name =
      let lt : r < 16 = omega (arith, f) in
      sat_register p s u r _ _ is lt (tells_as u (register_name i r) _ _ (written r _ lt) name) h
  write_operand p w (operand.Imm x) t m n f h e name = h
  write_operand p w (operand.Mem pl) t m n f h e name = absurd (cc)

  write_stays : (p : Predicate) (w : Width) (o : Operand) → is_place o ≡ false → Sat p s u → OperandNameFits i u s o → Sat (write_term v i p w o None) s u
  unfolding write_term
  write_stays p w operand.None n h name = h
  write_stays p w (operand.Reg r) n h name = sat_term p s u r _ (taken_stays r w _ name) h
  write_stays p w (operand.High r) n h name = sat_term p s u r _ name h
  write_stays p w (operand.Imm x) n h name = h
  write_stays p w (operand.Mem pl) n h name = absurd (cc)

  -- an operand that is no place in memory
  pub writes : (w : Width) (o : Operand) → is_place o ≡ false → NamesRegisters o → Writes v i s u w o
  writes w o n f = record {
    value = λ p t m h e name. write_operand p w o t m n f h e name;
    stays = λ p h name. write_stays p w o n h name;
  }
