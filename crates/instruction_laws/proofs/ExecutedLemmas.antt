-- What is known after an instruction that goes on at the next one is true, by the operation.
use Rattle.std.proofs.Common.{◌≡◌, ℕ, Bool, true, false, Some, None, refl, sym, ap, subst, ◌∙◌}
use Rattle.std.specs.Option.{option_map}
use Rattle.bits_core.specs.declared.width.Width.{Width}
use Rattle.bits_core.specs.declared.width.Width.TheVariants.{W8, W16, W32, W64}
use Rattle.bits_core.specs.declared.operations.Alu.TheVariants as alu
use Rattle.bits_core.specs.declared.operations.Shift.TheVariants as shift
use Rattle.sym_terms.specs.Plain.{PlainSum}
use Rattle.sym_terms.specs.Value.{Valuation}
use Rattle.predicates.specs.Predicate.{Predicate}
use Rattle.x86_instr.specs.declared.instr.Op.{Op}
use Rattle.x86_instr.specs.declared.instr.Op.TheVariants as op
use Rattle.x86_instr.specs.declared.instr.Operand.{Operand}
use Rattle.x86_instr.specs.declared.instr.Operand.TheVariants as operand
use Rattle.x86_instr.specs.declared.instr.Instr.{Instr}
use Rattle.x86_instr.specs.Classes.{class_of, GoesOn}
use Rattle.x86_instr.specs.Fits.{IsFactor, is_place}
use Rattle.x86_machine.specs.State.{State}
use Rattle.x86_machine.specs.Access.{read, write}
use Rattle.x86_machine.specs.Next as step
use Rattle.x86_machine.specs.Named.{Nothing, names_by, loaded_or}
use Rattle.forest_meaning.specs.Holds.{Tells}
use Rattle.predicate_meaning.specs.Sat.{Sat}
use Rattle.step_rules.specs.View.{View}
use Rattle.step_rules.specs.Terms.{number, zeros_term}
use Rattle.step_rules.specs.Names.{name_term, register_name, if_register}
use Rattle.step_rules.specs.Results.{name_result}
use Rattle.step_rules.specs.Moves.{moved}
use Rattle.step_rules.specs.Executed.{executed}
use Rattle.value_laws.proofs.Scene.{Scene, Reads}
use Rattle.value_laws.proofs.MeansLemmas.{means_number}
use Rattle.access_laws.proofs.AccessLemmas.{sat_rip}
use Rattle.access_laws.proofs.SceneLemmas.{some_same}
use Rattle.instruction_laws.proofs.Moment.{TakesTable, Moment, Leads, values, first, source_width, source_at}
use Rattle.instruction_laws.proofs.ArithmeticLemmas.{below_quad, combined_holds, compared_holds, inverted_holds, negated_holds, counted_holds, scaled_holds, halves_holds, divided_holds, shifted_holds}
use Rattle.instruction_laws.proofs.MoveLemmas.{moved_holds, extended_holds, addressed_holds, unknown_holds, byte_holds, exchanged_holds, widened_holds, signed_holds, pushed_holds, popped_holds, left_holds}

-- a name that isn't that of a register
quiet_load : (b c : Bool) (t : PlainSum) (r : ℕ) → if_register (loaded_or b (loaded_or c Nothing)) r t ≡ None
quiet_load true c t r = refl
quiet_load false true t r = refl
quiet_load false false t r = refl

unnamed_result : (u : Valuation) (i : Instr) (w : Width) (o : Operand) (n : ℕ) → ((r : ℕ) → register_name i r ≡ None) → Tells u (name_result i w o) n
unnamed_result u i w operand.None n e = tt
unnamed_result u i W8 (operand.Reg r) n e = tt
unnamed_result u i W16 (operand.Reg r) n e = tt
unnamed_result u i W32 (operand.Reg r) n e = subst (λ t. Tells u (option_map (zeros_term W32) t) n) (sym (e r)) tt
unnamed_result u i W64 (operand.Reg r) n e = subst (λ t. Tells u t n) (sym (e r)) tt
unnamed_result u i w (operand.High r) n e = tt
unnamed_result u i w (operand.Imm k) n e = tt
unnamed_result u i w (operand.Mem pl) n e = tt

module _ {v : View} {i : Instr} {s : State} {u : Valuation} {p : Predicate} (m : Moment v i s u p) where
  -- the second operand, where it has the width of the first
  source : i.src_width ≡ i.width → Reads v i s u i.width i.src
  source same = source_at m same

  takes : (o : Op) (signed : Bool) → i.op ≡ o → TakesTable o signed → TakesTable i.op signed
  takes o signed e k = subst (λ o. TakesTable o signed) (sym e) k

  -- cmp and test name no register
  no_name : (o : Op) → i.op ≡ o → names_by o i ≡ loaded_or (is_place i.dst) (loaded_or (is_place i.src) Nothing) → (n : ℕ)
      → Tells u (name_result i i.width i.dst) n
  no_name o e named n =
      unnamed_result u i i.width i.dst n (λ r.
      ap (λ o. if_register (names_by o i) r (name_term i)) e ∙ ap (λ k. if_register k r (name_term i)) named
      ∙ quiet_load (is_place i.dst) (is_place i.src) (name_term i) r)

  -- the third factor of imul
  factor : i.op ≡ op.Imul3 → Tells u (Some (number i.extra)) i.extra
  factor e =
      let fits = subst (λ o. IsFactor o i.width i.extra) e m.form.extra in
      means_number u m.ground.normal (values m) i.extra (below_quad i.width _ fits)

  -- mov reads its second operand at the width of the first
  move_holds : i.op ≡ op.Mov → Leads m (step.passes i (write s i.width i.dst (read s i.width i.src))) (moved v i p)
  move_holds e =
      subst (λ w. Scene i s (step.passes i (write s i.width i.dst (read s w i.src))) u → Sat (moved v i p) (step.passes i (write s i.width i.dst (read s w i.src))) u)
      (source_width m op.Mov e) (moved_holds m (takes op.Mov false e refl))

  -- what holds of the state that the machine gives holds of the one that comes next
  leads : (x t : State) (q : Predicate) → Some x ≡ Some t → Leads m x q → Leads m t q
  leads x t q n h scene =
      let same = some_same x t n in
      subst (λ t. Sat q t u) same (h (subst (λ t. Scene i s t u) (sym same) scene))

  -- what is known after an instruction that goes on is true
  pub executed_holds : (o : Op) → i.op ≡ o → (choice : ℕ) (t : State) → GoesOn (class_of o) → step.next_by o s i choice ≡ Some t
      → Leads m t (executed o v i p)
  executed_holds op.Add e choice t on n = leads _ t _ n (combined_holds m (source (source_width m op.Add e)) alu.Add)
  executed_holds op.Or e choice t on n = leads _ t _ n (combined_holds m (source (source_width m op.Or e)) alu.Or)
  executed_holds op.Adc e choice t on n = leads _ t _ n (combined_holds m (source (source_width m op.Adc e)) alu.Adc)
  executed_holds op.Sbb e choice t on n = leads _ t _ n (combined_holds m (source (source_width m op.Sbb e)) alu.Sbb)
  executed_holds op.And e choice t on n = leads _ t _ n (combined_holds m (source (source_width m op.And e)) alu.And)
  executed_holds op.Sub e choice t on n = leads _ t _ n (combined_holds m (source (source_width m op.Sub e)) alu.Sub)
  executed_holds op.Xor e choice t on n = leads _ t _ n (combined_holds m (source (source_width m op.Xor e)) alu.Xor)
  executed_holds op.Cmp e choice t on n = leads _ t _ n (compared_holds m (source (source_width m op.Cmp e)) alu.Sub (no_name op.Cmp e refl _))
  executed_holds op.Test e choice t on n = leads _ t _ n (compared_holds m (source (source_width m op.Test e)) alu.And (no_name op.Test e refl _))
  executed_holds op.Mov e choice t on n = leads _ t _ n (move_holds e)
  executed_holds op.Lea e choice t on n = leads _ t _ n (addressed_holds m e)
  executed_holds op.Movzx e choice t on n = leads _ t _ n (moved_holds m (takes op.Movzx false e refl))
  executed_holds op.Movsx e choice t on n = leads _ t _ n (extended_holds m (takes op.Movsx true e refl))
  executed_holds op.Not e choice t on n = leads _ t _ n (inverted_holds m)
  executed_holds op.Neg e choice t on n = leads _ t _ n (negated_holds m)
  executed_holds op.Mul e choice t on n = leads _ t _ n (halves_holds m _ _)
  executed_holds op.Imul1 e choice t on n = leads _ t _ n (halves_holds m _ _)
  executed_holds op.Div e choice t on n = divided_holds m _ choice t n
  executed_holds op.Idiv e choice t on n = divided_holds m _ choice t n
  executed_holds op.Imul2 e choice t on n = leads _ t _ n (scaled_holds m _ _ _ _ choice (first m) ((source (source_width m op.Imul2 e)).value p m.sat))
  executed_holds op.Imul3 e choice t on n = leads _ t _ n (scaled_holds m _ _ _ _ choice ((source (source_width m op.Imul3 e)).value p m.sat) (factor e))
  executed_holds op.Inc e choice t on n = leads _ t _ n (counted_holds m alu.Add)
  executed_holds op.Dec e choice t on n = leads _ t _ n (counted_holds m alu.Sub)
  executed_holds op.Rol e choice t on n = leads _ t _ n (shifted_holds m shift.Rol choice)
  executed_holds op.Ror e choice t on n = leads _ t _ n (shifted_holds m shift.Ror choice)
  executed_holds op.Shl e choice t on n = leads _ t _ n (shifted_holds m shift.Shl choice)
  executed_holds op.Shr e choice t on n = leads _ t _ n (shifted_holds m shift.Shr choice)
  executed_holds op.Sar e choice t on n = leads _ t _ n (shifted_holds m shift.Sar choice)
  executed_holds op.Push e choice t on n = leads _ t _ n (pushed_holds m e)
  executed_holds op.Pop e choice t on n = leads _ t _ n (popped_holds m e)
  executed_holds op.Leave e choice t on n = leads _ t _ n (left_holds m e)
  executed_holds op.Widen e choice t on n = leads _ t _ n (widened_holds m)
  executed_holds op.Signs e choice t on n = leads _ t _ n (signed_holds m)
  executed_holds op.Xchg e choice t on n = leads _ t _ n (exchanged_holds m e)
  executed_holds op.Bswap e choice t on n = leads _ t _ n (unknown_holds m _)
  executed_holds op.Cmov e choice t on n = leads _ t _ n (unknown_holds m _)
  executed_holds op.Setcc e choice t on n = leads _ t _ n (byte_holds m e _)
  executed_holds op.Jcc e choice t on n = absurd on
  executed_holds op.Jmp e choice t on n = absurd on
  executed_holds op.Call e choice t on n = absurd on
  executed_holds op.Ret e choice t on n = absurd on
  executed_holds op.Nop e choice t on n = leads _ t _ n (λ _. sat_rip _ _ _ u m.sat)
  executed_holds op.Syscall e choice t on n = absurd on
  executed_holds op.Hlt e choice t on n = absurd on
  executed_holds op.Ud2 e choice t on n = absurd on
  executed_holds op.Int3 e choice t on n = absurd on
