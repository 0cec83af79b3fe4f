-- What the value that an instruction names stands for.
use Rattle.std.specs.Prelude.{◌≡◌, ℕ, ◌^◌, ◌<◌, ◌⊎◌, Some, None}
use Rattle.bits_core.specs.Width.{bytes_of}
use Rattle.x86_instr.specs.declared.instr.Operand.TheVariants.{Mem}
use Rattle.x86_instr.specs.declared.instr.Place.{Place}
use Rattle.x86_instr.specs.declared.instr.Instr.{Instr}
use Rattle.x86_instr.specs.Fits.{InForm}
use Rattle.x86_machine.specs.Memory.{loaded}
use Rattle.x86_machine.specs.State.{State, reg}
use Rattle.x86_machine.specs.Access.{address}
use Rattle.x86_machine.specs.Next.{next}
use Rattle.x86_machine.specs.Named.{Register, Loaded, Stored, Nothing, names, named_value}
use Rattle.x86_machine.specs.Preserves.{IsApart}

-- one of the operands is this place in memory
abbrev pub HasPlace : Instr → Place → Type 0
HasPlace i p = (i.dst ≡ Mem p) ⊎ (i.src ≡ Mem p)

-- the number is the one in the bytes of an operand before the step
abbrev pub IsLoaded : State → Instr → ℕ → Type 0
IsLoaded s i n = (p : Place) × HasPlace i p × (n ≡ loaded s.memory (bytes_of i.width) (address s p))

-- a step changes no bytes but those of the width from the address on
abbrev pub StoresAt : State → Instr → State → ℕ → Type 0
StoresAt s i t at = (x : ℕ) → IsApart (bytes_of i.width) at x → t.memory x ≡ s.memory x

-- the named value is what a register has after the step, what an operand has before it, the address at which the step
-- stores, or there is none
pub record NamedLaws : Type 0 where
  pub of_register :
      (s t : State) (i : Instr) (r : ℕ) → names i ≡ Register r →
      named_value s i t ≡ Some (reg t r)
  pub of_load :
      (s t : State) (i : Instr) → InForm i → names i ≡ Loaded →
      (n : ℕ) × (named_value s i t ≡ Some n) × IsLoaded s i n
  pub of_store :
      (s t : State) (i : Instr) (choice : ℕ) →
      InForm i → names i ≡ Stored → next s i choice ≡ Some t →
      (at : ℕ) × (named_value s i t ≡ Some at) × (at < 2 ^ 64) × StoresAt s i t at
  pub of_none : (s t : State) (i : Instr) → names i ≡ Nothing → named_value s i t ≡ None
