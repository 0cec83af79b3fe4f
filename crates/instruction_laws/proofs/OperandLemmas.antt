-- What the law of a step needs of the operands of an instruction, in memory or not.
use Rattle.std.proofs.Common.{◌≡◌, ℕ, ◌+◌, ◌%◌, ◌^◌, ◌<◌, ◌≤◌, Bool, true, false, ◌&&◌, cond, Option, Some, None, refl, sym, ap, subst, ◌∙◌, arith, get_or-set_same}
use Rattle.std.proofs.Math.Nat.{mod-lt, mod-eq_of_lt}
use Rattle.std.proofs.lemmas.Bool.{false≢true}
use Rattle.std.specs.Prelude.{IfSome, IsTrue}
use Rattle.std.specs.Option.{option_or}
use Rattle.bits_core.specs.declared.width.Width.{Width}
use Rattle.bits_core.specs.declared.width.Width.TheVariants.{W8, W16, W32, W64}
use Rattle.bits_core.specs.Width.{bits_of}
use Rattle.bits_core.specs.LowBits.{cut_of, sext_of}
use Rattle.sym_terms.specs.Plain.{PlainSum}
use Rattle.sym_terms.specs.Value.{Valuation}
use Rattle.x86_instr.specs.declared.instr.Place.{Place}
use Rattle.x86_instr.specs.declared.instr.Op.{Op}
use Rattle.x86_instr.specs.declared.instr.Operand.{Operand}
use Rattle.x86_instr.specs.declared.instr.Operand.TheVariants.{Reg}
use Rattle.x86_instr.specs.declared.instr.Instr.{Instr}
use Rattle.x86_instr.specs.Fits.{IsOperand, IsSourceWidth, is_place}
use Rattle.x86_instr.specs.Kinds.{Kinds, a_register, has_width, widths_of, quad_only, dst_kinds, src_kinds}
use Rattle.x86_machine.specs.Memory.{address_plus}
use Rattle.x86_machine.specs.State.{State, IsState, reg, with_reg, with_rip}
use Rattle.x86_instr.specs.Registers.{rsp, rbp}
use Rattle.x86_machine.specs.Access.{NamesRegisters, address, address_of, read, write, merged}
use Rattle.x86_machine.specs.Named.{Name, Stored, Nothing, names_by, written, loaded_or, exchange_name, value_of}
use Rattle.machine_laws.proofs.StateLemmas.{reg_below, state_reg, state_write}
use Rattle.forest_meaning.specs.Assumed.{Keeps, Loaded}
use Rattle.value_laws.proofs.Ground.{Ground}
use Rattle.step_rules.specs.View.{View}
use Rattle.step_rules.specs.Names.{name_term, names_load, store_name, if_stored, is_low_register}
use Rattle.predicate_meaning.specs.Sat.{register}
use Rattle.step_rules.specs.Access.{bytes_term}
use Rattle.step_rules.specs.Moves.{below_top}
use Rattle.forest_meaning.specs.Holds.{Tells}
use Rattle.value_laws.proofs.Scene.{Scene, Reads, Writes, Pushes, Pops, StackHolds}
use Rattle.instruction_laws.proofs.Moment.{Operands}
use Rattle.value_laws.proofs.MeansLemmas.{tells_as, tells_or, means_below}
use Rattle.access_laws.proofs.AccessLemmas.{reads, writes}
use Rattle.access_laws.proofs.SceneLemmas.{names_of}
use Rattle.access_laws.proofs.ReadLemmas.{place_reads, loads_below, bytes_tell, loaded_holds}
use Rattle.access_laws.proofs.StoreLemmas.{place_writes}
use Rattle.access_laws.proofs.NamedLemmas.{named_register, extends, name_means, load_tells, store_by, named_by}
use Rattle.access_laws.proofs.PushLemmas.{tells_top, stored_below}
use Rattle.x86_instr.specs.declared.instr.Op.TheVariants as op
use Rattle.x86_instr.specs.declared.instr.Operand.TheVariants as operand
use Rattle.x86_machine.specs.Moves as machine_moves
use Rattle.x86_machine.specs.Next as step

pub some_same : {A : Type 0} → (x y : A) → Some x ≡ Some y → x ≡ y
some_same x y e = cc

-- ---- what an operation's operands are not

no_place : (k : Kinds) (w : Width) (o : Operand) → k.place ≡ false → IsOperand k w o → is_place o ≡ false
no_place k w operand.None e f = refl
no_place k w (operand.Reg r) e f = refl
no_place k w (operand.High r) e f = refl
no_place k w (operand.Imm n) e f = refl
no_place k w (operand.Mem pl) e f = absurd (not_true k.place e f.0)
  where
    not_true : (b : Bool) → b ≡ false → IsTrue b → ⊥
    not_true true e f = cc
    not_true false e f = cc

place_apart : (x : Operand) → is_place x ≡ true → is_low_register x ≡ true → ⊥
place_apart operand.None e f = cc
place_apart (operand.Reg r) e f = cc
place_apart (operand.High r) e f = cc
place_apart (operand.Imm n) e f = cc
place_apart (operand.Mem pl) e f = cc

pub quad : (w : Width) → IsTrue (has_width quad_only w) → w ≡ W64
quad W8 h = absurd (cc)
quad W16 h = absurd (cc)
quad W32 h = absurd (cc)
quad W64 h = refl

pub narrow : (w v : Width) → IsTrue (has_width (widths_of op.Movzx) w) → IsSourceWidth op.Movzx w v → bits_of v ≤ bits_of w
narrow W8 v k h = absurd (cc)
narrow W16 W8 k h = omega arith
narrow W16 W16 k h = omega arith
narrow W16 W32 k h = absurd (cc)
narrow W16 W64 k h = absurd (cc)
narrow W32 W8 k h = omega arith
narrow W32 W16 k h = omega arith
narrow W32 W32 k h = absurd (cc)
narrow W32 W64 k h = absurd (cc)
narrow W64 W8 k h = omega arith
narrow W64 W16 k h = omega arith
narrow W64 W32 k h = absurd (cc)
narrow W64 W64 k h = absurd (cc)

-- names that are no store's
unstored : (b c : Bool) (t : PlainSum) → if_stored (loaded_or b (loaded_or c Nothing)) t ≡ None
unstored true c t = refl
unstored false true t = refl
unstored false false t = refl

unexchanged : (d r : Operand) (t : PlainSum) → is_place d ≡ false → if_stored (exchange_name d r) t ≡ None
unexchanged operand.None r t e = refl
unexchanged (operand.Reg q) r t e = refl
unexchanged (operand.High q) r t e = refl
unexchanged (operand.Imm n) r t e = refl
unexchanged (operand.Mem pl) r t e = absurd (cc)

unwritten : (d : Operand) (t : PlainSum) → is_place d ≡ false → if_stored (written d) t ≡ None
unwritten operand.None t e = refl
unwritten (operand.Reg q) t e = refl
unwritten (operand.High q) t e = refl
unwritten (operand.Imm n) t e = refl
unwritten (operand.Mem pl) t e = absurd (cc)

-- the name has the operand's number, where that is loaded and named
abbrev LoadFits : Op → Instr → State → Valuation → Width → Operand → Type 0
LoadFits o i s u w x = is_place x ≡ true → names_load o i ≡ true → cut_of w (u.named i.addr) ≡ read s w x

module _ (g : Ground) (v : View) (i : Instr) (s t : State) (u : Valuation) (scene : Scene i s t u) (kept : Keeps u v.known) (image : Loaded v.known.image s.memory) where
  place_fits : (w : Width) (o : Operand) → is_place o ≡ true → read s w o < 2 ^ bits_of w
  unfolding read
  place_fits w operand.None e = absurd (cc)
  place_fits w (operand.Reg r) e = absurd (cc)
  place_fits w (operand.High r) e = absurd (cc)
  place_fits w (operand.Imm n) e = absurd (cc)
  place_fits w (operand.Mem pl) e = loads_below g g.forest v s u scene.before scene.range kept.image image w (address s pl)

  as_loaded : (w : Width) (o : Operand) → is_place o ≡ true → u.named i.addr ≡ read s w o → cut_of w (u.named i.addr) ≡ read s w o
  as_loaded w o place e = ap (cut_of w) e ∙ g.cut.same w _ (place_fits w o place)

  never : (x : Operand) (w : Width) (k : Kinds) (o : Op) → k.place ≡ false → IsOperand k w x → LoadFits o i s u w x
  never x w k o e f = λ place b. absurd (false≢true (sym (no_place k w x e f) ∙ place))

  form_dst : (o : Op) → i.op ≡ o → IsOperand (dst_kinds o) i.width i.dst
  form_dst o e = subst (λ o. IsOperand (dst_kinds o) i.width i.dst) e scene.form.dst

  form_src : (o : Op) → i.op ≡ o → IsOperand (src_kinds o) i.src_width i.src
  form_src o e = subst (λ o. IsOperand (src_kinds o) i.src_width i.src) e scene.form.src

  source_width : (o : Op) → i.op ≡ o → IsSourceWidth o i.width i.src_width
  source_width o e = subst (λ o. IsSourceWidth o i.width i.src_width) e scene.form.src_width

  width_at : (o : Op) → i.op ≡ o → IsTrue (has_width (widths_of o) i.width)
  width_at o e = subst (λ o. IsTrue (has_width (widths_of o) i.width)) e scene.form.width

  -- ---- cmp, test, push, jmp: the loaded number itself

  pub loads_first : (b : Bool) (other : Name) (at : State) → is_place i.dst ≡ b → b ≡ true → IfSome (value_of (loaded_or b other) s i at) (λ k. u.named i.addr ≡ k) → u.named i.addr ≡ read s i.width i.dst
  loads_first true other at e f k = k ∙ ap (λ b. cond b (read s i.width i.dst) (read s i.src_width i.src)) e
  loads_first false other at e f k = absurd (cc)

  loads_second : (b c : Bool) (at : State) → is_place i.dst ≡ b → c ≡ true → (b && c) ≡ false → IfSome (value_of (loaded_or b (loaded_or c Nothing)) s i at) (λ k. u.named i.addr ≡ k) → u.named i.addr ≡ read s i.src_width i.src
  loads_second true true at e f n k = absurd (cc)
  loads_second true false at e f n k = absurd (cc)
  loads_second false true at e f n k = k ∙ ap (λ b. cond b (read s i.width i.dst) (read s i.src_width i.src)) e
  loads_second false false at e f n k = absurd (cc)

  first_named : (o : Op) (other : Name) → i.op ≡ o → names_by o i ≡ loaded_or (is_place i.dst) other → LoadFits o i s u i.width i.dst
  first_named o other e nm = λ place b. as_loaded i.width i.dst place
      (loads_first (is_place i.dst) other t refl place (subst (λ k. IfSome (value_of k s i t) (λ k. u.named i.addr ≡ k)) nm (named_by g i s t u scene o e)))

  second_named : (o : Op) → i.op ≡ o → names_by o i ≡ loaded_or (is_place i.dst) (loaded_or (is_place i.src) Nothing) → LoadFits o i s u i.src_width i.src
  second_named o e nm = λ place b. as_loaded i.src_width i.src place
      (loads_second (is_place i.dst) (is_place i.src) t refl place scene.form.one_place (subst (λ k. IfSome (value_of k s i t) (λ k. u.named i.addr ≡ k)) nm (named_by g i s t u scene o e)))

  -- ---- mov, movzx, movsx: the low bits of the register that gets it

  not_first : (o : Op) → names_load o i ≡ is_low_register i.dst → LoadFits o i s u i.width i.dst
  not_first o nl = λ place b. absurd (place_apart i.dst place (sym nl ∙ b))

  register_load : (o : Op) (n : ℕ) → i.op ≡ o → names_by o i ≡ written i.dst → Some (step.passes i (write s i.width i.dst n)) ≡ Some t → bits_of i.src_width ≤ bits_of i.width
      → cut_of i.src_width n ≡ cut_of i.src_width (read s i.src_width i.src) → names_load o i ≡ is_low_register i.dst → LoadFits o i s u i.src_width i.src
  register_load o n e nm next wide same nl = λ place b.
      let named : IfSome (value_of (written i.dst) s i t) (λ k. u.named i.addr ≡ k) = subst (λ k. IfSome (value_of k s i t) (λ k. u.named i.addr ≡ k)) nm (named_by g i s t u scene o e) in
      let at = subst (λ t. IfSome (value_of (written i.dst) s i t) (λ k. u.named i.addr ≡ k)) (sym (some_same _ _ next)) named in
      named_register i s scene.before u s i.dst i.src_width i.width n (names_of _ i.width i.dst scene.form.dst) wide at (sym nl ∙ b)
      ∙ same ∙ g.cut.same i.src_width _ (place_fits i.src_width i.src place)

  -- ---- xchg: the low bits of the second register

  exchange_named : (d : Operand) → is_place d ≡ true → exchange_name d i.src ≡ written i.src
  exchange_named operand.None e = absurd (cc)
  exchange_named (operand.Reg r) e = absurd (cc)
  exchange_named (operand.High r) e = absurd (cc)
  exchange_named (operand.Imm n) e = absurd (cc)
  exchange_named (operand.Mem pl) e = refl

  exchange_load : i.op ≡ op.Xchg → Some (step.passes i (machine_moves.exchanged s i)) ≡ Some t → LoadFits op.Xchg i s u i.width i.dst
  exchange_load e next = λ place b.
      let first = write s i.width i.dst (read s i.width i.src) in
      let named : IfSome (value_of (written i.src) s i t) (λ k. u.named i.addr ≡ k) = subst (λ k. IfSome (value_of k s i t) (λ k. u.named i.addr ≡ k)) (exchange_named i.dst place) (named_by g i s t u scene op.Xchg e) in
      let at = subst (λ t. IfSome (value_of (written i.src) s i t) (λ k. u.named i.addr ≡ k)) (sym (some_same _ _ next)) named in
      named_register i first (state_write s i.width i.dst _ scene.before) u s i.src i.width i.width (read s i.width i.dst) (names_of (src_kinds op.Xchg) i.src_width i.src (form_src op.Xchg e)) (omega arith) at b
      ∙ g.cut.same i.width _ (place_fits i.width i.dst place)

  -- ---- any operation

  dst_load : (o : Op) → i.op ≡ o → (choice : ℕ) → step.next_by o s i choice ≡ Some t → LoadFits o i s u i.width i.dst
  dst_load op.Cmp e choice n = first_named op.Cmp _ e refl
  dst_load op.Test e choice n = first_named op.Test _ e refl
  dst_load op.Push e choice n = first_named op.Push _ e refl
  dst_load op.Jmp e choice n = first_named op.Jmp _ e refl
  dst_load op.Pop e choice n = never i.dst i.width (dst_kinds op.Pop) op.Pop refl (form_dst op.Pop e)
  dst_load op.Leave e choice n = never i.dst i.width (dst_kinds op.Leave) op.Leave refl (form_dst op.Leave e)
  dst_load op.Mov e choice n = not_first op.Mov refl
  dst_load op.Movzx e choice n = not_first op.Movzx refl
  dst_load op.Movsx e choice n = not_first op.Movsx refl
  dst_load op.Xchg e choice n = exchange_load e n
  dst_load o e choice n = λ place b. absurd (cc)

  src_load : (o : Op) → i.op ≡ o → (choice : ℕ) → step.next_by o s i choice ≡ Some t → LoadFits o i s u i.src_width i.src
  src_load op.Cmp e choice n = second_named op.Cmp e refl
  src_load op.Test e choice n = second_named op.Test e refl
  src_load op.Push e choice n = never i.src i.src_width (src_kinds op.Push) op.Push refl (form_src op.Push e)
  src_load op.Jmp e choice n = never i.src i.src_width (src_kinds op.Jmp) op.Jmp refl (form_src op.Jmp e)
  src_load op.Pop e choice n = never i.src i.src_width (src_kinds op.Pop) op.Pop refl (form_src op.Pop e)
  src_load op.Leave e choice n = never i.src i.src_width (src_kinds op.Leave) op.Leave refl (form_src op.Leave e)
  src_load op.Mov e choice n =
      let same : i.src_width ≡ i.width = source_width op.Mov e in
      register_load op.Mov (read s i.width i.src) e refl n (subst (λ w. bits_of i.src_width ≤ bits_of w) same (omega arith))
      (ap (λ w. cut_of i.src_width (read s w i.src)) (sym same)) refl
  src_load op.Movzx e choice n = register_load op.Movzx (read s i.src_width i.src) e refl n (narrow i.width i.src_width (width_at op.Movzx e) (source_width op.Movzx e)) refl refl
  src_load op.Movsx e choice n =
      register_load op.Movsx (sext_of i.src_width (read s i.src_width i.src)) e refl n (extends i.width i.src_width (width_at op.Movsx e) (source_width op.Movsx e))
      (g.sext.agree i.src_width _) refl
  src_load op.Xchg e choice n = never i.src i.src_width (src_kinds op.Xchg) op.Xchg refl (form_src op.Xchg e)
  src_load o e choice n = λ place b. absurd (cc)

  place_address : (pl : Place) → i.dst ≡ operand.Mem pl → address_of s i.dst ≡ address s pl
  unfolding address_of
  place_address pl e = ap (address_of s) e

  store_at : (o : Op) → i.op ≡ o → (pl : Place) → i.dst ≡ operand.Mem pl → Tells u (if_stored (names_by o i) (name_term i)) (address s pl)
  store_at o e pl d =
      store_by g i s t u scene (names_by o i) (address s pl)
      (ap (λ b. cond b (address_of s i.dst) (machine_moves.below_top s)) (ap is_place d) ∙ place_address pl d) (named_by g i s t u scene o e)

  -- a place that is the second operand is no store
  store_elsewhere : (o : Op) → i.op ≡ o → is_place i.dst ≡ false → is_place i.src ≡ true → if_stored (names_by o i) (name_term i) ≡ None
  store_elsewhere op.Call e d r = refl
  store_elsewhere op.Syscall e d r = refl
  store_elsewhere op.Cmp e d r = unstored (is_place i.dst) (is_place i.src) (name_term i)
  store_elsewhere op.Test e d r = unstored (is_place i.dst) (is_place i.src) (name_term i)
  store_elsewhere op.Push e d r = absurd (false≢true (sym (no_place (src_kinds op.Push) i.src_width i.src refl (form_src op.Push e)) ∙ r))
  store_elsewhere op.Jmp e d r = ap (λ b. if_stored (loaded_or b Nothing) (name_term i)) d
  store_elsewhere op.Leave e d r = refl
  store_elsewhere op.Mul e d r = refl
  store_elsewhere op.Imul1 e d r = refl
  store_elsewhere op.Div e d r = refl
  store_elsewhere op.Idiv e d r = refl
  store_elsewhere op.Widen e d r = refl
  store_elsewhere op.Signs e d r = refl
  store_elsewhere op.Xchg e d r = unexchanged i.dst i.src (name_term i) d
  store_elsewhere op.Jcc e d r = refl
  store_elsewhere op.Ret e d r = refl
  store_elsewhere op.Nop e d r = refl
  store_elsewhere op.Hlt e d r = refl
  store_elsewhere op.Ud2 e d r = refl
  store_elsewhere op.Int3 e d r = refl
  store_elsewhere o e d r = unwritten i.dst (name_term i) d

  place_first : (b c : Bool) → (b && c) ≡ false → c ≡ true → b ≡ false
  place_first true true e r = absurd (cc)
  place_first true false e r = absurd (cc)
  place_first false c e r = refl

  -- the first operand, and the second, in memory or not
  reads_as : (w : Width) (o : Operand) (k : Kinds) → IsOperand k w o → LoadFits i.op i s u w o → ((pl : Place) → o ≡ operand.Mem pl → Tells u (store_name i) (address s pl)) → Reads v i s u w o
  reads_as w (operand.Mem pl) k f n a = place_reads g g.forest v s u scene.before scene.range kept image i w pl f.1.disp (load_tells g i s t u scene w _ (n refl)) (a pl refl)
  reads_as w operand.None k f n a = reads g v i s t u scene w operand.None k refl f
  reads_as w (operand.Reg r) k f n a = reads g v i s t u scene w (operand.Reg r) k refl f
  reads_as w (operand.High r) k f n a = reads g v i s t u scene w (operand.High r) k refl f
  reads_as w (operand.Imm m) k f n a = reads g v i s t u scene w (operand.Imm m) k refl f

  reads_dst : LoadFits i.op i s u i.width i.dst → Reads v i s u i.width i.dst
  reads_dst n = reads_as i.width i.dst (dst_kinds i.op) scene.form.dst n (λ pl e. store_at i.op refl pl e)

  reads_src : LoadFits i.op i s u i.src_width i.src → Reads v i s u i.src_width i.src
  reads_src n = reads_as i.src_width i.src (src_kinds i.op) scene.form.src n (λ pl e.
      let second : is_place i.src ≡ true = ap is_place e in
      subst (λ o. Tells u o (address s pl)) (sym (store_elsewhere i.op refl (place_first (is_place i.dst) (is_place i.src) scene.form.one_place second) second)) tt)

  -- ---- what is written

  writes_at : (w : Width) (o : Operand) (k : Kinds) → i.dst ≡ o → IsOperand k w o → NamesRegisters o → Writes v i s u w o
  writes_at w (operand.Mem pl) k d f n = place_writes g.forest g.stores v s u kept g scene.range i w pl f.1.disp (store_at i.op refl pl d)
  writes_at w operand.None k d f n = writes v i s u scene.before w operand.None refl n
  writes_at w (operand.Reg r) k d f n = writes v i s u scene.before w (operand.Reg r) refl n
  writes_at w (operand.High r) k d f n = writes v i s u scene.before w (operand.High r) refl n
  writes_at w (operand.Imm m) k d f n = writes v i s u scene.before w (operand.Imm m) refl n

  -- ---- the stack

  push_by : (b : Bool) → is_place i.dst ≡ b → IfSome (value_of (loaded_or b Stored) s i t) (λ k. u.named i.addr ≡ k)
      → Tells u (if_stored (loaded_or b Stored) (name_term i)) (machine_moves.below_top s)
  push_by true f named = tt
  push_by false f named = store_by g i s t u scene Stored (machine_moves.below_top s) (ap (λ b. cond b (address_of s i.dst) (machine_moves.below_top s)) f) named

  push_name : i.op ≡ op.Push → Tells u (store_name i) (machine_moves.below_top s)
  push_name e =
      subst (λ o. Tells u (if_stored (names_by o i) (name_term i)) (machine_moves.below_top s)) (sym e)
      (push_by (is_place i.dst) refl (named_by g i s t u scene op.Push e))

  pushes_hold : i.op ≡ op.Push → Pushes v i s u
  pushes_hold e = record {
    pushes = λ p a n h k.
        stored_below g.forest g.stores v s u kept p (option_or (below_top p) (store_name i)) a n
        (tells_or u (below_top p) (store_name i) _ (tells_top g u scene.range p s h) (push_name e))
        (whole a n k) h;
  }
    where
      whole : (a : Option PlainSum) (n : ℕ) → Tells u a n → Tells u a (n % 256 ^ 8)
      whole None n k = tt
      whole (Some a) n k = tells_as u (Some a) n _ (sym (mod-eq_of_lt (means_below u g.normal (g.values u scene.range) a n k))) k

  module _ (r : ℕ) (named : u.named i.addr ≡ machine_moves.quad_at s (reg s r)) where
    low : reg s r < 2 ^ 64
    low = reg_below s r scene.before

    small : machine_moves.quad_at s (reg s r) < 2 ^ 64
    small = loads_below g g.forest v s u scene.before scene.range kept.image image W64 (reg s r)

    pops_hold : Pops v i s u r
    pops_hold = record {
      loads = λ p h. loaded_holds g g.forest v s u scene.before scene.range kept image i p W64 (register p r) (reg s r) (h.registers r)
          (load_tells g i s t u scene W64 _ (λ b. ap (cut_of W64) named ∙ g.cut.same W64 _ small)) h;
      quads = λ p h. tells_or u (bytes_term v p.forest 8 (register p r)) (Some (name_term i)) _
          (bytes_tell g g.forest v s u scene.before scene.range kept.image image p W64 (register p r) (reg s r) low (h.registers r) h) (name_means g i s t u scene _ named);
      fits = small;
    }

  register_whole : (at : State) (r n : ℕ) → IsState at → r < 16 → reg (step.passes i (with_reg at r n)) r ≡ n
  unfolding reg with_reg with_rip
  register_whole at r n is lt = get_or-set_same at.regs r n 0 (omega (arith, is.count))

  quad_small : (x : ℕ) → machine_moves.quad_at s x < 2 ^ 64
  quad_small x = loads_below g g.forest v s u scene.before scene.range kept.image image W64 x

  leave_named : i.op ≡ op.Leave → Some (step.passes i (machine_moves.after_leave s)) ≡ Some t → u.named i.addr ≡ machine_moves.quad_at s (reg s rbp)
  leave_named e next =
      let raised : IsState (with_reg s rsp (address_plus 8 (reg s rbp))) = state_reg s rsp _ (mod-lt (reg s rbp + 8) (omega arith)) scene.before in
      named_by g i s t u scene op.Leave e ∙ ap (λ t. reg t rbp) (sym (some_same _ _ next)) ∙ register_whole (with_reg s rsp (address_plus 8 (reg s rbp))) rbp (machine_moves.quad_at s (reg s rbp)) raised (omega arith)

  register_quad : (at : State) (r n : ℕ) → IsState at → r < 16 → n < 2 ^ 64 → reg (step.passes i (write at W64 (Reg r) n)) r ≡ n
  unfolding write merged
  register_quad at r n is lt small = register_whole at r (n % 2 ^ 64) is lt ∙ mod-eq_of_lt small

  pop_as : (o : Operand) → i.dst ≡ o → IsOperand a_register W64 o → IfSome (value_of (written o) s i t) (λ k. u.named i.addr ≡ k)
      → step.passes i (write (machine_moves.rsp_popped s) W64 o (machine_moves.quad_at s (reg s rsp))) ≡ t → u.named i.addr ≡ machine_moves.quad_at s (reg s rsp)
  pop_as operand.None d f h same = absurd (cc)
  pop_as (operand.High r) d f h same = absurd (wide f.1)
    where
      wide : W64 ≡ W8 → ⊥
      wide e = cc
  pop_as (operand.Imm n) d f h same = absurd (cc)
  pop_as (operand.Mem pl) d f h same = absurd (cc)
  pop_as (operand.Reg r) d f h same =
      let raised : IsState (machine_moves.rsp_popped s) = state_reg s rsp _ (mod-lt (reg s rsp + 8) (omega arith)) scene.before in
      h ∙ ap (λ t. reg t r) (sym same) ∙ register_quad (machine_moves.rsp_popped s) r (machine_moves.quad_at s (reg s rsp)) raised f.1 (quad_small (reg s rsp))

  pop_named : i.op ≡ op.Pop → Some (step.passes i (machine_moves.popped s i)) ≡ Some t → u.named i.addr ≡ machine_moves.quad_at s (reg s rsp)
  pop_named e next =
      pop_as i.dst refl (subst (λ w. IsOperand a_register w i.dst) (quad i.width (width_at op.Pop e)) (form_dst op.Pop e)) (named_by g i s t u scene op.Pop e) (some_same _ _ next)

  stack_holds : (o : Op) → i.op ≡ o → (choice : ℕ) → step.next_by o s i choice ≡ Some t → StackHolds o v i s u
  stack_holds op.Push e choice n = pushes_hold e
  stack_holds op.Pop e choice n = pops_hold rsp (pop_named e n)
  stack_holds op.Leave e choice n = pops_hold rbp (leave_named e n)
  stack_holds o e choice n = tt

  exchanged_writes : i.op ≡ op.Xchg → Writes v i (write s i.width i.dst (read s i.width i.src)) u i.width i.src
  exchanged_writes e =
      writes v i _ u (state_write s i.width i.dst _ scene.before) i.width i.src (no_place a_register i.src_width i.src refl (form_src op.Xchg e)) (names_of (src_kinds op.Xchg) i.src_width i.src (form_src op.Xchg e))

  -- all of them
  pub operands_hold : (choice : ℕ) → step.next s i choice ≡ Some t → Operands v i s u
  operands_hold choice n = record {
    dst = reads_dst (dst_load i.op refl choice n);
    src = reads_src (src_load i.op refl choice n);
    written = writes_at i.width i.dst _ refl scene.form.dst (names_of _ _ i.dst scene.form.dst);
    exchanged = exchanged_writes;
    stack = stack_holds i.op refl choice n;
  }
