-- What a table gives a load or a jump has the loaded number.
use Rattle.std.proofs.Common.{◌≡◌, ℕ, ◌^◌, ◌<◌, ◌≤◌, Bool, true, false, List, Option, Some, None, refl, sym, ap, subst, ◌∙◌, arith, ◌&&◌}
use Rattle.std.proofs.Math.Nat.{mod-eq_of_lt, pow-le-pow_right}
use Rattle.std.proofs.lemmas.Bool.{cond_both, false≢true, and_parts}
use Rattle.std.specs.Prelude.{IfSome, IsTrue}
use Rattle.std.specs.List.{Contains}
use Rattle.bits_core.specs.declared.width.Width.{Width}
use Rattle.bits_core.specs.declared.width.Width.TheVariants.{W8, W16, W32, W64}
use Rattle.bits_core.specs.Width.{bits_of, bytes_of}
use Rattle.sym_terms.specs.Plain.{PlainSum}
use Rattle.sym_terms.specs.Value.{Valuation}
use Rattle.predicates.specs.Predicate.{Predicate}
use Rattle.x86_instr.specs.declared.instr.Op.{Op}
use Rattle.x86_instr.specs.declared.instr.Operand.{Operand}
use Rattle.x86_instr.specs.declared.instr.Instr.{Instr}
use Rattle.x86_instr.specs.Fits.{IsOperand, IsSourceWidth, is_place}
use Rattle.x86_instr.specs.Kinds.{Kinds, a_register, has_width, widths_of, dst_kinds}
use Rattle.x86_machine.specs.Memory.{loaded}
use Rattle.x86_machine.specs.State.{State, reg}
use Rattle.x86_machine.specs.Access.{address, read, write, merged}
use Rattle.x86_machine.specs.Named.{Nothing, names_by, written, value_of}
use Rattle.forest_meaning.specs.Assumed.{Keeps, Loaded}
use Rattle.value_laws.proofs.Ground.{Ground}
use Rattle.step_rules.specs.View.{View}
use Rattle.step_rules.specs.Access.{address_term, address_term_of, bytes_term}
use Rattle.step_rules.specs.Tables.{if_unknown, loaded_values, takes_entry, table_of}
use Rattle.step_rules.specs.Names.{is_low_register}
use Rattle.forest_meaning.specs.Holds.{Tells}
use Rattle.predicate_meaning.specs.Sat.{Sat}
use Rattle.value_laws.proofs.Scene.{Scene}
use Rattle.instruction_laws.proofs.Moment.{TablesHold, TakesTable}
use Rattle.access_laws.proofs.NumberLemmas.{fixed_loaded}
use Rattle.value_laws.proofs.TableLemmas.{extended_by, values_tell}
use Rattle.access_laws.proofs.ReadLemmas.{address_tells, loads_below}
use Rattle.access_laws.proofs.NamedLemmas.{named_by, register_written}
use Rattle.instruction_laws.proofs.OperandLemmas.{some_same, quad, narrow, loads_first}
use Rattle.x86_instr.specs.declared.instr.Op.TheVariants as op
use Rattle.x86_instr.specs.declared.instr.Operand.TheVariants as operand
use Rattle.x86_machine.specs.Next as step

merged_32 : (old n : ℕ) → n < 2 ^ 32 → merged W32 old n ≡ n
unfolding merged
merged_32 old n h = mod-eq_of_lt h

merged_64 : (old n : ℕ) → n < 2 ^ 64 → merged W64 old n ≡ n
unfolding merged
merged_64 old n h = mod-eq_of_lt h

below_quad : (w : Width) (m : ℕ) → m < 2 ^ bits_of w → m < 2 ^ 64
below_quad W8 m h = omega arith
below_quad W16 m h = omega arith
below_quad W32 m h = omega arith
below_quad W64 m h = h

wide_fits : (v w : Width) (n : ℕ) → bits_of v ≤ bits_of w → n < 2 ^ bits_of v → n < 2 ^ bits_of w
wide_fits v w n h k = let p : 2 ^ bits_of v ≤ 2 ^ bits_of w = pow-le-pow_right {n = 2} (omega arith) h in omega (arith, p, k)

no_address : (p : Predicate) (o : Operand) → is_place o ≡ false → address_term_of p o ≡ None
unfolding address_term_of
no_address p operand.None e = refl
no_address p (operand.Reg r) e = refl
no_address p (operand.High r) e = refl
no_address p (operand.Imm n) e = refl
no_address p (operand.Mem pl) e = absurd (cc)

-- a register that movzx and movsx write is one that mov may write
wider : (w : Width) (d : Operand) → IsOperand a_register w d → IsOperand (dst_kinds op.Mov) w d
wider w operand.None f = absurd (cc)
wider w (operand.Reg r) f = f
wider w (operand.High r) f = f
wider w (operand.Imm n) f = absurd (cc)
wider w (operand.Mem pl) f = absurd (cc)

module _ (g : Ground) (v : View) (i : Instr) (s t : State) (u : Valuation) (scene : Scene i s t u) (kept : Keeps u v.known) (image : Loaded v.known.image s.memory) where
  known_otherwise : (known : Option PlainSum) (ns : Option (List ℕ)) (n : ℕ) → IfSome ns (λ ns. Contains ns n)
      → IfSome (if_unknown known ns) (λ ns. Contains ns n)
  known_otherwise None ns n h = h
  known_otherwise (Some t) ns n h = tt

  -- of an address: the number is loaded there
  values_at : (p : Predicate) (w : Width) (signed : Bool) (at : Option PlainSum) (x : ℕ) → Sat p s u → Tells u at x
      → IfSome (loaded_values v p w signed at) (λ ns. Contains ns (extended_by signed w (loaded s.memory (bytes_of w) x)))
  values_at p w signed None x h k = tt
  values_at p w signed (Some at) x h k =
      known_otherwise (bytes_term v p.forest (bytes_of w) (Some at)) _ _
      (values_tell g u scene.range v.known.image s.memory (λ a n c e. fixed_loaded v.known.image s.memory a n c kept.image image e) at x k w signed p.bounds h.bounds)

  -- of an operand: the number is read there
  values_of : (p : Predicate) (w : Width) (signed : Bool) (k : Kinds) (o : Operand) → IsOperand k w o → Sat p s u
      → IfSome (loaded_values v p w signed (address_term_of p o)) (λ ns. Contains ns (extended_by signed w (read s w o)))
  unfolding address_term_of read
  values_of p w signed k operand.None f h = tt
  values_of p w signed k (operand.Reg r) f h = tt
  values_of p w signed k (operand.High r) f h = tt
  values_of p w signed k (operand.Imm n) f h = tt
  values_of p w signed k (operand.Mem pl) f h = values_at p w signed (address_term p pl) (address s pl) h (address_tells g u scene.range p s h pl f.1.disp)

  -- the register of the load has the number
  entry_by : (signed : Bool) (w : Width) (d : Operand) (n : ℕ) → takes_entry signed w ≡ true → is_low_register d ≡ true → IsOperand (dst_kinds op.Mov) w d
      → n < 2 ^ 64 → (signed ≡ false → n < 2 ^ bits_of w) → IfSome (value_of (written d) s i (step.passes i (write s w d n))) (λ k. u.named i.addr ≡ k) → u.named i.addr ≡ n
  entry_by signed W8 d n m low f small fits h = absurd (cc)
  entry_by signed W16 d n m low f small fits h = absurd (cc)
  entry_by false W32 (operand.Reg r) n m low f small fits h = h ∙ register_written i s scene.before W32 r n f.1 ∙ merged_32 (reg s r) n (fits refl)
  entry_by true W32 (operand.Reg r) n m low f small fits h = absurd (cc)
  entry_by signed W32 operand.None n m low f small fits h = absurd (cc)
  entry_by signed W32 (operand.High r) n m low f small fits h = absurd (cc)
  entry_by signed W32 (operand.Imm k) n m low f small fits h = absurd (cc)
  entry_by signed W32 (operand.Mem pl) n m low f small fits h = absurd (cc)
  entry_by signed W64 (operand.Reg r) n m low f small fits h = h ∙ register_written i s scene.before W64 r n f.1 ∙ merged_64 (reg s r) n small
  entry_by signed W64 operand.None n m low f small fits h = absurd (cc)
  entry_by signed W64 (operand.High r) n m low f small fits h = absurd (cc)
  entry_by signed W64 (operand.Imm k) n m low f small fits h = absurd (cc)
  entry_by signed W64 (operand.Mem pl) n m low f small fits h = absurd (cc)

  has_entry : (signed : Bool) (w : Width) (d : Operand) (n : ℕ) → (takes_entry signed w && is_low_register d) ≡ true → IsOperand (dst_kinds op.Mov) w d
      → n < 2 ^ 64 → (signed ≡ false → n < 2 ^ bits_of w) → IfSome (value_of (written d) s i (step.passes i (write s w d n))) (λ k. u.named i.addr ≡ k) → u.named i.addr ≡ n
  has_entry signed w d n m f small fits h =
      let both = and_parts (takes_entry signed w) (is_low_register d) m in
      entry_by signed w d n both.0 both.1 f small fits h

  source_width : (o : Op) → i.op ≡ o → IsSourceWidth o i.width i.src_width
  source_width o e = subst (λ o. IsSourceWidth o i.width i.src_width) e scene.form.src_width

  width_at : (o : Op) → i.op ≡ o → IsTrue (has_width (widths_of o) i.width)
  width_at o e = subst (λ o. IsTrue (has_width (widths_of o) i.width)) e scene.form.width

  named_after : (o : Op) (n : ℕ) → i.op ≡ o → names_by o i ≡ written i.dst → Some (step.passes i (write s i.width i.dst n)) ≡ Some t
      → IfSome (value_of (written i.dst) s i (step.passes i (write s i.width i.dst n))) (λ k. u.named i.addr ≡ k)
  named_after o n e nm next =
      subst (λ t. IfSome (value_of (written i.dst) s i t) (λ k. u.named i.addr ≡ k)) (sym (some_same _ _ next))
      (subst (λ k. IfSome (value_of k s i t) (λ k. u.named i.addr ≡ k)) nm (named_by g i s t u scene o e))

  from_table : (p : Predicate) (signed : Bool) → Sat p s u → ((takes_entry signed i.width && is_low_register i.dst) ≡ true → is_place i.src ≡ true → u.named i.addr ≡ extended_by signed i.src_width (read s i.src_width i.src))
      → IfSome (table_of v i p signed) (λ ns. Contains ns (u.named i.addr))
  from_table p signed h named =
      cond_both ((takes_entry signed i.width && is_low_register i.dst)) (loaded_values v p i.src_width signed (address_term_of p i.src)) None (λ o. IfSome o (λ ns. Contains ns (u.named i.addr)))
      (λ m. at_place (is_place i.src) refl m) (λ _. tt)
    where
      no_values : (o : Operand) → is_place o ≡ false → (ns : Option (List ℕ)) → loaded_values v p i.src_width signed None ≡ ns → IfSome ns (λ ns. Contains ns (u.named i.addr))
      no_values o e None f = tt
      no_values o e (Some ns) f = absurd (cc)

      at_place : (b : Bool) → is_place i.src ≡ b → (takes_entry signed i.width && is_low_register i.dst) ≡ true → IfSome (loaded_values v p i.src_width signed (address_term_of p i.src)) (λ ns. Contains ns (u.named i.addr))
      at_place true e m = subst (λ n. IfSome (loaded_values v p i.src_width signed (address_term_of p i.src)) (λ ns. Contains ns n)) (sym (named m e)) (values_of p i.src_width signed _ i.src scene.form.src h)
      at_place false e m = subst (λ a. IfSome (loaded_values v p i.src_width signed a) (λ ns. Contains ns (u.named i.addr))) (sym (no_address p i.src e)) tt

  src_fits : (w : Width) (o : Operand) → is_place o ≡ true → read s w o < 2 ^ bits_of w
  unfolding read
  src_fits w operand.None e = absurd (cc)
  src_fits w (operand.Reg r) e = absurd (cc)
  src_fits w (operand.High r) e = absurd (cc)
  src_fits w (operand.Imm n) e = absurd (cc)
  src_fits w (operand.Mem pl) e = loads_below g g.forest v s u scene.before scene.range kept.image image w (address s pl)

  loads_hold : (o : Op) → i.op ≡ o → (choice : ℕ) → step.next_by o s i choice ≡ Some t → (p : Predicate) (signed : Bool) → TakesTable o signed → Sat p s u → IfSome (table_of v i p signed) (λ ns. Contains ns (u.named i.addr))
  loads_hold op.Mov e choice n p true k h = absurd (cc)
  loads_hold op.Mov e choice n p false k h =
      let same : i.src_width ≡ i.width = source_width op.Mov e in
      from_table p false h (λ m place.
      let fits : read s i.src_width i.src < 2 ^ bits_of i.src_width = src_fits i.src_width i.src place in
      let next : Some (step.passes i (write s i.width i.dst (read s i.src_width i.src))) ≡ Some t = subst (λ w. Some (step.passes i (write s i.width i.dst (read s w i.src))) ≡ Some t) (sym same) n in
      has_entry false i.width i.dst _ m (subst (λ o. IsOperand (dst_kinds o) i.width i.dst) e scene.form.dst) (below_quad i.src_width _ fits) (λ _. subst (λ w. read s i.src_width i.src < 2 ^ bits_of w) same fits) (named_after op.Mov _ e refl next))
  loads_hold op.Movzx e choice n p true k h = absurd (cc)
  loads_hold op.Movzx e choice n p false k h =
      from_table p false h (λ m place.
      let fits : read s i.src_width i.src < 2 ^ bits_of i.src_width = src_fits i.src_width i.src place in
      has_entry false i.width i.dst _ m (wider i.width i.dst (subst (λ o. IsOperand (dst_kinds o) i.width i.dst) e scene.form.dst)) (below_quad i.src_width _ fits)
      (λ _. wide_fits i.src_width i.width _ (narrow i.width i.src_width (width_at op.Movzx e) (source_width op.Movzx e)) fits) (named_after op.Movzx _ e refl n))
  loads_hold op.Movsx e choice n p false k h = absurd (cc)
  loads_hold op.Movsx e choice n p true k h =
      from_table p true h (λ m place.
      has_entry true i.width i.dst _ m (wider i.width i.dst (subst (λ o. IsOperand (dst_kinds o) i.width i.dst) e scene.form.dst)) (g.sext.below i.src_width _)
      (λ b. absurd (false≢true (sym b))) (named_after op.Movsx _ e refl n))
  loads_hold o e choice n p signed k h = absurd k

  jump_holds : i.op ≡ op.Jmp → (p : Predicate) → Sat p s u → IfSome (loaded_values v p W64 false (address_term_of p i.dst)) (λ ns. Contains ns (u.named i.addr) × (u.named i.addr ≡ read s W64 i.dst))
  jump_holds e p h = at_place (is_place i.dst) refl
    where
      wide : i.width ≡ W64
      wide = quad i.width (width_at op.Jmp e)

      paired : (ns : Option (List ℕ)) → IfSome ns (λ ns. Contains ns (u.named i.addr)) → u.named i.addr ≡ read s W64 i.dst → IfSome ns (λ ns. Contains ns (u.named i.addr) × (u.named i.addr ≡ read s W64 i.dst))
      paired None h e = tt
      paired (Some ns) h e = (h, e)

      at_place : (b : Bool) → is_place i.dst ≡ b → IfSome (loaded_values v p W64 false (address_term_of p i.dst)) (λ ns. Contains ns (u.named i.addr) × (u.named i.addr ≡ read s W64 i.dst))
      at_place false f = subst (λ a. IfSome (loaded_values v p W64 false a) (λ ns. Contains ns (u.named i.addr) × (u.named i.addr ≡ read s W64 i.dst))) (sym (no_address p i.dst f)) tt
      at_place true f =
          let named : u.named i.addr ≡ read s i.width i.dst = loads_first g v i s t u scene kept image (is_place i.dst) Nothing t refl f (named_by g i s t u scene op.Jmp e) in
          let at : u.named i.addr ≡ read s W64 i.dst = named ∙ ap (λ w. read s w i.dst) wide in
          let form : IsOperand (dst_kinds i.op) W64 i.dst = subst (λ w. IsOperand (dst_kinds i.op) w i.dst) wide scene.form.dst in
          paired _ (subst (λ n. IfSome (loaded_values v p W64 false (address_term_of p i.dst)) (λ ns. Contains ns n)) (sym at) (values_of p W64 false _ i.dst form h)) at

  pub tables_hold : (choice : ℕ) → step.next s i choice ≡ Some t → TablesHold v i s u
  tables_hold choice n = record {
    loads = λ p signed k h. loads_hold i.op refl choice n p signed k h;
    jump = λ e p h. jump_holds e p h;
  }
