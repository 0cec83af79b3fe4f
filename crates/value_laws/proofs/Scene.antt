-- A step, as the step rules see it, and what is known of the operands of its instruction.
use Rattle.std.specs.Prelude.{◌≡◌, ℕ, ◌<◌, ◌^◌, Option, None, IfSome}
use Rattle.bits_core.specs.declared.width.Width.{Width}
use Rattle.std.specs.Option.{option_or}
use Rattle.bits_core.specs.declared.width.Width.TheVariants.{W64}
use Rattle.bits_core.specs.Width.{bits_of}
use Rattle.bits_core.specs.LowBits.{cut_of}
use Rattle.sym_terms.specs.Plain.{PlainSum}
use Rattle.sym_terms.specs.Value.{Valuation, IsInRange}
use Rattle.predicates.specs.Predicate.{Predicate}
use Rattle.x86_instr.specs.declared.instr.Operand.{Operand}
use Rattle.x86_instr.specs.declared.instr.Op.{Op}
use Rattle.x86_instr.specs.declared.instr.Instr.{Instr}
use Rattle.x86_instr.specs.Fits.{InForm}
use Rattle.x86_machine.specs.State.{State, IsState, reg, with_bytes}
use Rattle.x86_instr.specs.Registers.{rsp, rbp}
use Rattle.x86_machine.specs.Access.{read, write}
use Rattle.x86_machine.specs.Named.{named_value}
use Rattle.step_rules.specs.View.{View}
use Rattle.step_rules.specs.Names.{register_name, store_name}
use Rattle.predicate_meaning.specs.Sat.{register, Sat}
use Rattle.step_rules.specs.Access.{known_term, read_term, after_read, loaded_from, with_bytes as with_stored, write_term}
use Rattle.step_rules.specs.Moves.{below_top, quad_at}
use Rattle.forest_meaning.specs.Holds.{Tells}
pub use Rattle.predicate_meaning.specs.Begin.{with_name, renamed}
use Rattle.x86_instr.specs.declared.instr.Op.TheVariants as op
use Rattle.x86_instr.specs.declared.instr.Operand.TheVariants as operand
use Rattle.x86_machine.specs.Moves as machine

-- the instruction leads from one state in range to another, the valuation has the site's new name
pub record Scene (i : Instr) (s t : State) (u : Valuation) : Type 0 where
  pub before : IsState s
  pub after : IsState t
  pub form : InForm i
  pub range : IsInRange u
  pub named : IfSome (named_value s i t) (λ n. u.named i.addr ≡ n)

-- an operand at a width: what is known of it is true, and so is what is known after it was read
pub record Reads (v : View) (i : Instr) (s : State) (u : Valuation) (w : Width) (o : Operand) : Type 0 where
  pub known : (p : Predicate) → Sat p s u → Tells u (known_term v i p w o) (read s w o)
  pub value : (p : Predicate) → Sat p s u → Tells u (read_term v i p w o) (read s w o)
  pub fits : read s w o < 2 ^ bits_of w
  pub loads : (p : Predicate) → Sat p s u → Sat (after_read v i p w o) s u

-- the name is true of a register, where it stands for that, and so of an operand that is one
abbrev pub NameFits : Instr → Valuation → State → ℕ → Type 0
NameFits i u t r = Tells u (register_name i r) (reg t r)

abbrev pub OperandNameFits : Instr → Valuation → State → Operand → Type 0
OperandNameFits i u t (operand.Reg r) = NameFits i u t r
OperandNameFits i u t (operand.High r) = NameFits i u t r
OperandNameFits i u t _ = Unit {0}

-- an operand that is written at a width: what is known after the write of a result is true, and so it is where the
-- result is unknown and nothing was written
pub record Writes (v : View) (i : Instr) (s : State) (u : Valuation) (w : Width) (o : Operand) : Type 0 where
  pub value :
      (p : Predicate) (t : Option PlainSum) (n : ℕ) → Sat p s u → Tells u t (cut_of w n) →
      OperandNameFits i u (write s w o n) o → Sat (write_term v i p w o t) (write s w o n) u
  pub stays : (p : Predicate) → Sat p s u → OperandNameFits i u s o → Sat (write_term v i p w o None) s u

-- what the store of push keeps
pub record Pushes (v : View) (i : Instr) (s : State) (u : Valuation) : Type 0 where
  pub pushes :
      (p : Predicate) (t : Option PlainSum) (n : ℕ) → Sat p s u → Tells u t n →
      Sat (with_stored v p 8 (option_or (below_top p) (store_name i)) t) (with_bytes s 8 (machine.below_top s) n) u

-- what the load of pop or leave is and keeps, from the address in a register
pub record Pops (v : View) (i : Instr) (s : State) (u : Valuation) (r : ℕ) : Type 0 where
  pub loads : (p : Predicate) → Sat p s u → Sat (loaded_from v i p W64 (register p r)) s u
  pub quads : (p : Predicate) → Sat p s u → Tells u (quad_at v i p (register p r)) (machine.quad_at s (reg s r))
  pub fits : machine.quad_at s (reg s r) < 2 ^ 64

-- by the operation
abbrev pub StackHolds : Op → View → Instr → State → Valuation → Type 0
StackHolds op.Push v i s u = Pushes v i s u
StackHolds op.Pop v i s u = Pops v i s u rsp
StackHolds op.Leave v i s u = Pops v i s u rbp
StackHolds _ v i s u = Unit {0}
