-- What is known after instructions that move data is true of the state after them.
use Rattle.std.proofs.Common.{◌≡◌, ℕ, true, false, Option, Some, None, List, refl, sym, ap, subst, ◌∙◌, arith}
use Rattle.std.specs.Prelude.{IfSome, IsTrue}
use Rattle.std.specs.List.{Contains}
use Rattle.bits_core.specs.declared.width.Width.{Width}
use Rattle.bits_core.specs.declared.width.Width.TheVariants.{W8, W16, W32, W64}
use Rattle.bits_core.specs.LowBits.{cut_of}
use Rattle.sym_terms.specs.Plain.{PlainSum}
use Rattle.sym_terms.specs.Value.{Valuation}
use Rattle.predicates.specs.Predicate.{Predicate}
use Rattle.x86_instr.specs.declared.instr.Op.{Op}
use Rattle.x86_instr.specs.declared.instr.Op.TheVariants as op
use Rattle.x86_instr.specs.declared.instr.Operand.{Operand}
use Rattle.x86_instr.specs.declared.instr.Operand.TheVariants as operand
use Rattle.x86_instr.specs.declared.instr.Operand.TheVariants.{Reg}
use Rattle.x86_instr.specs.declared.instr.Instr.{Instr}
use Rattle.x86_instr.specs.Kinds.{a_register, a_place, src_kinds, dst_kinds, has_width, widths_of, byte_only, quad_only}
use Rattle.x86_instr.specs.Fits.{IsOperand, is_place}
use Rattle.x86_instr.specs.Registers.{rax, rdx, rsp, rbp}
use Rattle.x86_machine.specs.Memory.{address_plus}
use Rattle.x86_machine.specs.State.{State, IsState, reg, with_reg}
use Rattle.x86_machine.specs.Access.{address_of, read, write}
use Rattle.x86_machine.specs.Steps as machine_steps
use Rattle.x86_machine.specs.Moves as machine
use Rattle.x86_machine.specs.Next.{passes}
use Rattle.machine_laws.proofs.StateLemmas.{state_bytes}
use Rattle.x86_machine.specs.Named.{names_by, exchange_name}
use Rattle.forest_meaning.specs.Holds.{Tells}
use Rattle.predicate_meaning.specs.Sat.{register, Sat}
use Rattle.step_rules.specs.View.{View}
use Rattle.step_rules.specs.Names.{name, name_term, register_name, if_register}
use Rattle.step_rules.specs.Access.{address_term_of, after_read, write_term}
use Rattle.step_rules.specs.Tables.{table_of, with_values}
use Rattle.step_rules.specs.Moves.{by_table, moved, extended_by_sign, addressed, exchanged, operand_pushed, popped, after_leave, widened, after_cwd}
use Rattle.value_laws.proofs.Scene.{Scene, Reads, OperandNameFits, Pushes, Pops}
use Rattle.value_laws.proofs.MeansLemmas.{means_symbol, tells_as, tells_cut, tells_signed}
use Rattle.value_laws.proofs.BoundLemmas.{sat_bound}
use Rattle.access_laws.proofs.AccessLemmas.{sat_rip, sat_register, name_fits, writes}
use Rattle.access_laws.proofs.PushLemmas.{tells_lowered, tells_raised}
use Rattle.access_laws.proofs.ReadLemmas.{address_tells}
use Rattle.instruction_laws.proofs.Moment.{TakesTable, Moment, Leads, range, values, dst_names, first, second, source_width, stack_at, source_at}
use Rattle.instruction_laws.proofs.ArithmeticLemmas.{name_passes, operand_name_fits, write_holds}

pub quad_width : (w : Width) → IsTrue (has_width quad_only w) → w ≡ W64
quad_width W8 h = absurd (cc)
quad_width W16 h = absurd (cc)
quad_width W32 h = absurd (cc)
quad_width W64 h = refl

plain_register : (w : Width) (o : Operand) → IsOperand a_register w o → is_place o ≡ false
plain_register w operand.None f = refl
plain_register w (operand.Reg r) f = refl
plain_register w (operand.High r) f = refl
plain_register w (operand.Imm n) f = refl
plain_register w (operand.Mem pl) f = absurd (cc)

module _ {v : View} {i : Instr} {s : State} {u : Valuation} {p : Predicate} (m : Moment v i s u p) where
  -- ---- tables

  -- a number that a table gives is a bound of the name
  pub name_bound : (ns : List ℕ) → Contains ns (u.named i.addr) → (q : Predicate) → Sat q s u → Sat (with_values i ns q) s u
  name_bound ns is_in q k =
      sat_bound m.ground u (range m) (name_term i) ns (u.named i.addr) q s
      (means_symbol u m.ground.normal (values m) (name i) m.form.addr) is_in k

  -- a loaded number replaces the first operand; one of a table's is the name
  by_table_holds : (ns : Option (List ℕ)) → IfSome ns (λ ns. Contains ns (u.named i.addr)) → (q : Predicate) → Sat q s u
      → (t : Option PlainSum) (n : ℕ) → Tells u t (cut_of i.width n) → Leads m (passes i (write s i.width i.dst n)) (by_table v i q ns t)
  by_table_holds None is_in q h t n k = write_holds m q h n t k
  by_table_holds (Some ns) is_in q h t n k = write_holds m (with_values i ns q) (name_bound ns is_in q h) n None tt

  -- ---- mov and its kin

  after_source : Sat (after_read v i p i.src_width i.src) s u
  after_source = m.operands.src.loads p m.sat

  -- mov and movzx
  pub moved_holds : TakesTable i.op false → Leads m (passes i (machine_steps.extended_by_zeros s i)) (moved v i p)
  moved_holds takes =
      by_table_holds (table_of v i p false) (m.tables.loads p false takes m.sat) _ after_source _ _
      (tells_cut u m.ground.normal (values m) i.width _ _ (second m))

  -- movsx
  pub extended_holds : TakesTable i.op true → Leads m (passes i (machine_steps.extended_by_sign s i)) (extended_by_sign v i p)
  extended_holds takes =
      let known = tells_signed u m.ground.normal (values m) m.ground.sext i.src_width _ _ (m.operands.src.known p m.sat) in
      by_table_holds (table_of v i p true) (m.tables.loads p true takes m.sat) _ after_source _ _
      (tells_cut u m.ground.normal (values m) i.width _ _ known)

  -- the address that lea takes
  lea_address : (o : Operand) → IsOperand a_place i.src_width o → Tells u (address_term_of p o) (address_of s o)
  unfolding address_term_of address_of
  lea_address operand.None f = tt
  lea_address (operand.Reg r) f = tt
  lea_address (operand.High r) f = tt
  lea_address (operand.Imm n) f = tt
  lea_address (operand.Mem pl) f = address_tells m.ground u (range m) p s m.sat pl f.1.disp

  -- lea
  pub addressed_holds : i.op ≡ op.Lea → Leads m (passes i (machine_steps.addressed s i)) (addressed v i p)
  addressed_holds e =
      let form = subst (λ o. IsOperand (src_kinds o) i.src_width i.src) e m.form.src in
      write_holds m p m.sat _ _ (tells_cut u m.ground.normal (values m) i.width _ _ (lea_address i.src form))

  -- bswap, cmov
  pub unknown_holds : (n : ℕ) → Leads m (passes i (write s i.width i.dst n)) (write_term v i p i.width i.dst None)
  unknown_holds n = write_holds m p m.sat n None tt

  byte_width : (w : Width) → IsTrue (has_width byte_only w) → w ≡ W8
  byte_width W8 h = refl
  byte_width W16 h = absurd (cc)
  byte_width W32 h = absurd (cc)
  byte_width W64 h = absurd (cc)

  -- setcc
  pub byte_holds : i.op ≡ op.Setcc → (n : ℕ) → Leads m (passes i (write s W8 i.dst n)) (write_term v i p W8 i.dst None)
  byte_holds e n =
      subst (λ w. Scene i s (passes i (write s w i.dst n)) u → Sat (write_term v i p w i.dst None) (passes i (write s w i.dst n)) u)
      (byte_width i.width (subst (λ o. IsTrue (has_width (widths_of o) i.width)) e m.form.width)) (unknown_holds n)

  -- xchg of two registers names nothing, and with memory its second operand
  no_name : i.op ≡ op.Xchg → (o : Operand) → i.dst ≡ o → (q : ℕ) → exchange_name o i.src ≡ exchange_name i.dst i.src
      → if_register (exchange_name o i.src) q (name_term i) ≡ register_name i q
  no_name x o e q f =
      ap (λ n. if_register n q (name_term i)) f ∙ sym (ap (λ o. if_register (names_by o i) q (name_term i)) x)

  exchanged_name : (t : State) (o : Operand) → i.dst ≡ o → i.op ≡ op.Xchg → OperandNameFits i u t o
  exchanged_name t operand.None e x = tt
  exchanged_name t (operand.Reg r) e x =
      subst (λ a. Tells u a (reg t r)) (no_name x (operand.Reg r) e r (ap (λ d. exchange_name d i.src) (sym e))) tt
  exchanged_name t (operand.High r) e x =
      subst (λ a. Tells u a (reg t r)) (no_name x (operand.High r) e r (ap (λ d. exchange_name d i.src) (sym e))) tt
  exchanged_name t (operand.Imm n) e x = tt
  exchanged_name t (operand.Mem pl) e x = tt

  -- xchg
  pub exchanged_holds : i.op ≡ op.Xchg → Leads m (passes i (machine.exchanged s i)) (exchanged v i p)
  exchanged_holds e scene =
      let src = source_at m (source_width m op.Xchg e) in
      let loaded = m.operands.dst.loads p m.sat in
      let into_first = tells_as u _ _ _ (sym (m.ground.cut.same i.width _ src.fits)) (src.value p m.sat) in
      let into_second = tells_as u _ _ _ (sym (m.ground.cut.same i.width _ m.operands.dst.fits)) (first m) in
      let once = m.operands.written.value _ _ _ loaded into_first (exchanged_name _ i.dst refl e) in
      let name = operand_name_fits i u _ i.src (λ r. name_passes i u _ r (name_fits m.ground v i s _ u scene r)) in
      sat_rip _ _ _ u ((m.operands.exchanged e).value _ _ _ once into_second name)

  -- ---- cbw, cwde, cdqe; cwd, cdq, cqo

  rax_named : (n : ℕ) (w : Width) → Scene i s (passes i (write s w (Reg rax) n)) u → OperandNameFits i u (write s w (Reg rax) n) (Reg rax)
  rax_named n w scene = name_passes i u _ rax (name_fits m.ground v i s _ u scene rax)

  pub widened_holds : Leads m (passes i (machine.widened s i)) (widened v i p)
  widened_holds scene =
      let half = tells_signed u m.ground.normal (values m) m.ground.sext (machine.half_of i.width) (register p rax) _ (m.sat.registers rax) in
      sat_rip _ _ _ u ((writes v i s u m.state i.width (Reg rax) refl (omega arith)).value p _ _ m.sat
      (tells_cut u m.ground.normal (values m) i.width _ _ half) (rax_named _ i.width scene))

  pub signed_holds : Leads m (passes i (machine.after_cwd s i)) (after_cwd v i p)
  signed_holds scene =
      let named = name_passes i u _ rdx (name_fits m.ground v i s _ u scene rdx) in
      sat_rip _ _ _ u ((writes v i s u m.state i.width (Reg rdx) refl (omega arith)).value p None _ m.sat tt named)

  -- ---- the stack

  quad : (o : Op) → i.op ≡ o → widths_of o ≡ quad_only → i.width ≡ W64
  quad o e q = quad_width i.width (subst (λ ws. IsTrue (has_width ws i.width)) (ap widths_of e ∙ q) m.form.width)

  -- push
  pub pushed_holds : i.op ≡ op.Push → Leads m (passes i (machine.pushed s (read s W64 i.dst))) (operand_pushed v i p)
  pushed_holds e scene =
      let stack : Pushes v i s u = stack_at m op.Push e in
      let dst = subst (λ w. Reads v i s u w i.dst) (quad op.Push e refl) m.operands.dst in
      let q = dst.loads p m.sat in
      let top = state_bytes s 8 (machine.below_top s) _ (omega arith) m.state in
      sat_rip _ _ _ u (sat_register _ _ u rsp _ _ top (omega arith)
      (tells_lowered m.ground u (range m) _ _ (q.registers rsp)) (stack.pushes _ _ _ q (dst.value p m.sat)))

  -- rsp after a pop from an address
  raised_state : (at : ℕ) → IsState (with_reg s rsp (address_plus 8 at))
  raised_state at = m.ground.ranges.state_reg s rsp _ (omega arith) m.state

  -- pop
  pub popped_holds : i.op ≡ op.Pop → Leads m (passes i (machine.popped s i)) (popped v i p)
  popped_holds e scene =
      let stack : Pops v i s u rsp = stack_at m op.Pop e in
      let plain = plain_register i.width i.dst (subst (λ o. IsOperand (dst_kinds o) i.width i.dst) e m.form.dst) in
      let raised = sat_register _ s u rsp _ _ m.state (omega arith) (tells_raised m.ground u (range m) _ _ (m.sat.registers rsp)) (stack.loads p m.sat) in
      let loaded = tells_as u _ _ _ (sym (m.ground.cut.same W64 _ stack.fits)) (stack.quads p m.sat) in
      let name = operand_name_fits i u _ i.dst (λ r. name_passes i u _ r (name_fits m.ground v i s _ u scene r)) in
      sat_rip _ _ _ u ((writes v i (machine.rsp_popped s) u (raised_state (reg s rsp)) W64 i.dst plain (dst_names m)).value _ _ _ raised loaded name)

  -- leave
  pub left_holds : i.op ≡ op.Leave → Leads m (passes i (machine.after_leave s)) (after_leave v i p)
  left_holds e scene =
      let stack : Pops v i s u rbp = stack_at m op.Leave e in
      let raised = sat_register _ s u rsp _ _ m.state (omega arith) (tells_raised m.ground u (range m) _ _ (m.sat.registers rbp)) (stack.loads p m.sat) in
      sat_rip _ _ _ u (sat_register _ _ u rbp _ _ (raised_state (reg s rbp)) (omega arith) (stack.quads p m.sat) raised)
