-- What every step keeps, where it goes on, and what calls and returns do.
use Rattle.std.specs.Prelude.{◌≡◌, ◌≢◌, ℕ, ◌+◌, ◌%◌, ◌^◌, ◌<◌, ◌≤◌, Some, IsSome, ◌↔◌}
use Rattle.bits_core.specs.declared.width.Width.{Width}
use Rattle.bits_core.specs.declared.width.Width.TheVariants.{W64}
use Rattle.x86_instr.specs.declared.instr.Op.TheVariants as op
use Rattle.x86_instr.specs.declared.instr.Place.{Place}
use Rattle.x86_instr.specs.declared.instr.Operand.{Operand}
use Rattle.x86_instr.specs.declared.instr.Instr.{Instr}
use Rattle.x86_instr.specs.Classes.{class_of, GoesOn}
use Rattle.x86_instr.specs.Fits.{InForm}
use Rattle.x86_instr.specs.Registers.{rsp}
use Rattle.x86_machine.specs.declared.machine.Outcome.TheVariants.{Moved}
use Rattle.x86_machine.specs.Memory.{loaded, stored, address_plus}
use Rattle.x86_machine.specs.State.{State, IsState, reg, with_reg}
use Rattle.x86_machine.specs.Access.{address, read, write}
use Rattle.x86_machine.specs.Moves.{below_top, quad_at}
use Rattle.x86_machine.specs.Next.{next, next_address, outcome_of}
use Rattle.x86_machine.specs.Preserves.{Location, number_in, IsApart, Preserves}

-- a step from a state in range leads to one
abbrev pub StateLaw : Type 0
StateLaw =
    (s t : State) (i : Instr) (choice : ℕ) →
    IsState s → InForm i → next s i choice ≡ Some t → IsState t

-- the numbers of a state in range, and which writes keep it in range
pub record RangeLaws : Type 0 where
  pub reg_below : (s : State) (r : ℕ) → IsState s → reg s r < 2 ^ 64
  pub quad_below : (s : State) (at : ℕ) → IsState s → quad_at s at < 2 ^ 64
  pub address_below : (s : State) (p : Place) → address s p < 2 ^ 64
  pub state_reg : (s : State) (r v : ℕ) → v < 2 ^ 64 → IsState s → IsState (with_reg s r v)
  pub state_write :
      (s : State) (w : Width) (o : Operand) (v : ℕ) → IsState s → IsState (write s w o v)

-- a store keeps every other byte, and what it stored is read back
pub record StoreLaws : Type 0 where
  pub apart :
      (memory : ℕ → ℕ) (n at v x : ℕ) → at < 2 ^ 64 → IsApart n at x →
      stored memory n at v x ≡ memory x
  pub back :
      (memory : ℕ → ℕ) (n at v : ℕ) → at < 2 ^ 64 → n ≤ 8 →
      loaded (stored memory n at v) n at ≡ v % 256 ^ n

-- a state comes next exactly where the outcome says so
abbrev pub OutcomeLaw : Type 0
OutcomeLaw =
    (s : State) (i : Instr) (choice : ℕ) →
    (outcome_of s i choice ≡ Moved) ↔ IsSome (next s i choice)

-- a step keeps what the instruction does not write
abbrev pub PreserveLaw : Type 0
PreserveLaw =
    (s t : State) (i : Instr) (choice : ℕ) (l : Location) →
    next s i choice ≡ Some t → Preserves i.op s i l → number_in t l ≡ number_in s l

-- a step keeps the FS base
abbrev pub BaseLaw : Type 0
BaseLaw =
    (s t : State) (i : Instr) (choice : ℕ) → next s i choice ≡ Some t → t.fs_base ≡ s.fs_base

-- a step that neither jumps nor calls nor returns goes on at the next instruction
abbrev pub PlaceLaw : Type 0
PlaceLaw =
    (s t : State) (i : Instr) (choice : ℕ) →
    GoesOn (class_of i.op) → next s i choice ≡ Some t → t.rip ≡ next_address i

-- what a call does up to the state in which the callee begins
pub record Pushes (s t : State) (i : Instr) : Type 0 where
  pub rip : t.rip ≡ read s W64 i.dst
  pub stack : reg t rsp ≡ below_top s
  pub back : (reg t rsp + 8) % 2 ^ 64 ≡ reg s rsp
  pub others : (r : ℕ) → r ≢ rsp → reg t r ≡ reg s r
  pub fs_base : t.fs_base ≡ s.fs_base
  pub memory : t.memory ≡ stored s.memory 8 (below_top s) (next_address i)
  pub top : loaded t.memory 8 (reg t rsp) ≡ next_address i

-- a call pushes the address after it
abbrev pub CallLaw : Type 0
CallLaw =
    (s t : State) (i : Instr) (choice : ℕ) →
    IsState s → i.op ≡ op.Call → next s i choice ≡ Some t → Pushes s t i

-- what a return reads and keeps
pub record Returns (s t : State) : Type 0 where
  pub rip : t.rip ≡ quad_at s (reg s rsp)
  pub stack : IsState s → reg t rsp ≡ address_plus 8 (reg s rsp)
  pub others : (r : ℕ) → r ≢ rsp → reg t r ≡ reg s r
  pub fs_base : t.fs_base ≡ s.fs_base
  pub memory : t.memory ≡ s.memory

-- a return goes to the address on the stack
abbrev pub ReturnLaw : Type 0
ReturnLaw =
    (s t : State) (i : Instr) (choice : ℕ) →
    i.op ≡ op.Ret → next s i choice ≡ Some t → Returns s t
