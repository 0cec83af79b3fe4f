-- A moment of a run: a state at an instruction, of which a predicate is true, with what is known of its operands.
use Rattle.std.specs.Prelude.{◌≡◌, Bool, true, false, IfSome}
use Rattle.std.specs.List.{Contains}
use Rattle.bits_core.specs.declared.width.Width.TheVariants.{W64}
use Rattle.std.proofs.Common.{subst}
use Rattle.sym_terms.specs.Value.{Valuation, IsInRange}
use Rattle.term_laws.specs.Laws.{ValueLaws}
use Rattle.predicates.specs.Predicate.{Predicate}
use Rattle.x86_instr.specs.declared.instr.Op.{Op}
use Rattle.x86_instr.specs.declared.instr.Op.TheVariants as op
use Rattle.x86_instr.specs.declared.instr.Instr.{Instr}
use Rattle.x86_instr.specs.Kinds.{dst_kinds}
use Rattle.x86_instr.specs.Fits.{InForm, IsSourceWidth}
use Rattle.x86_machine.specs.State.{State, IsState}
use Rattle.x86_machine.specs.Access.{NamesRegisters, read, write}
use Rattle.forest_meaning.specs.Holds.{Tells}
use Rattle.predicate_meaning.specs.Sat.{Sat}
use Rattle.step_rules.specs.View.{View}
use Rattle.step_rules.specs.Access.{address_term_of, read_term}
use Rattle.step_rules.specs.Tables.{loaded_values, table_of}
use Rattle.value_laws.proofs.Ground.{Ground}
use Rattle.value_laws.proofs.Scene.{Scene, Reads, Writes, StackHolds}
use Rattle.access_laws.proofs.SceneLemmas.{names_of}

-- what is needed of the operands of an instruction at a state
pub record Operands (v : View) (i : Instr) (s : State) (u : Valuation) : Type 0 where
  pub dst : Reads v i s u i.width i.dst
  pub src : Reads v i s u i.src_width i.src
  pub written : Writes v i s u i.width i.dst
  pub exchanged : i.op ≡ op.Xchg → Writes v i (write s i.width i.dst (read s i.width i.src)) u i.width i.src
  pub stack : StackHolds i.op v i s u

-- an operation whose load may be from a table, extended by the sign or by zeros
abbrev pub TakesTable : Op → Bool → Type 0
TakesTable op.Mov signed = signed ≡ false
TakesTable op.Movzx signed = signed ≡ false
TakesTable op.Movsx signed = signed ≡ true
TakesTable _ signed = ⊥

-- where a jump or a load has what the tables give
pub record TablesHold (v : View) (i : Instr) (s : State) (u : Valuation) : Type 0 where
  pub loads : (p : Predicate) (signed : Bool) → TakesTable i.op signed → Sat p s u → IfSome (table_of v i p signed) (λ ns. Contains ns (u.named i.addr))
  pub jump :
      i.op ≡ op.Jmp → (p : Predicate) → Sat p s u →
      IfSome (loaded_values v p W64 false (address_term_of p i.dst)) (λ ns. Contains ns (u.named i.addr) × (u.named i.addr ≡ read s W64 i.dst))

-- a state in range at an instruction in form, a predicate that is true of it, and its operands and tables
pub record Moment (v : View) (i : Instr) (s : State) (u : Valuation) (p : Predicate) : Type 0 where
  pub ground : Ground
  pub state : IsState s
  pub form : InForm i
  pub sat : Sat p s u
  pub operands : Operands v i s u
  pub tables : TablesHold v i s u

module _ {v : View} {i : Instr} {s : State} {u : Valuation} {p : Predicate} (m : Moment v i s u p) where
  -- the instruction leads to the state, of which the predicate is true then
  abbrev pub Leads : State → Predicate → Type 0
  Leads t q = Scene i s t u → Sat q t u

  pub range : IsInRange u
  range = m.sat.range

  pub values : ValueLaws u
  values = m.ground.values u range

  pub dst_names : NamesRegisters i.dst
  dst_names = names_of (dst_kinds i.op) i.width i.dst m.form.dst

  -- the number of the first operand, and of the second
  pub first : Tells u (read_term v i p i.width i.dst) (read s i.width i.dst)
  first = m.operands.dst.value p m.sat

  pub second : Tells u (read_term v i p i.src_width i.src) (read s i.src_width i.src)
  second = m.operands.src.value p m.sat

  -- what the form of an instruction of an operation gives
  pub source_width : (o : Op) → i.op ≡ o → IsSourceWidth o i.width i.src_width
  source_width o e = subst (λ o. IsSourceWidth o i.width i.src_width) e m.form.src_width

  pub stack_at : (o : Op) → i.op ≡ o → StackHolds o v i s u
  stack_at o e = subst (λ o. StackHolds o v i s u) e m.operands.stack

  -- the second operand at the width of the first
  pub source_at : i.src_width ≡ i.width → Reads v i s u i.width i.src
  source_at e = subst (λ w. Reads v i s u w i.src) e m.operands.src
