-- What a command learns of a file that it takes.
use Rattle.std.specs.Prelude.{◌≡◌, ◌⊎◌, List, ℕ}
use Rattle.std.specs.declared.option.Option.{Option}
use Rattle.foxdec_commands.specs.Ending.{Ending, out_of_memory}
use Rattle.foxdec_commands.specs.Outcome.{Allows}
use Rattle.foxdec_commands.specs.Outside.{Files, ReadFailed}

-- The bytes are of this value and of no other, and no refusal applies to them.
pub record IsOnlyOf {X : Type 0} (Form : List ℕ → X → Type 0)
    (Refused : List ℕ → Ending → Type 0) (bytes : List ℕ) (x : X) : Type 0 where
  pub form : Form bytes x
  pub only : (y : X) → Form bytes y → x ≡ y
  pub kept : (ending : Ending) → Refused bytes ending → ⊥

-- The bytes are refused with this ending and with no other, and are of no value.
pub record IsOnlyRefused {X : Type 0} (Form : List ℕ → X → Type 0)
    (Refused : List ℕ → Ending → Type 0) (bytes : List ℕ) (ending : Ending) : Type 0 where
  pub refused : Refused bytes ending
  pub only : (other : Ending) → Refused bytes other → ending ≡ other
  pub no_value : (x : X) → Form bytes x → ⊥

-- a file is taken as a value: its bytes, the known ones where it is known, are of this one alone
abbrev pub IsTaken : {X : Type 0} → (List ℕ → X → Type 0) → (List ℕ → Ending → Type 0)
    → Option (List ℕ) → X → Type 0
IsTaken Form Refused known x = Allows known (λ bytes. IsOnlyOf Form Refused bytes x)

-- a file is refused: its bytes, the known ones where it is known, are
abbrev pub IsRefused : {X : Type 0} → (List ℕ → X → Type 0) → (List ℕ → Ending → Type 0)
    → Option (List ℕ) → Ending → Type 0
IsRefused Form Refused known ending =
    Allows known (λ bytes. IsOnlyRefused Form Refused bytes ending)

-- reads of a file failed, and this is its name
abbrev pub FailedRead : Files → List ℕ → List ℕ → Type 0
FailedRead files file name = (name ≡ file) × ReadFailed files name

-- no read failed here
abbrev pub NoRead : List ℕ → Type 0
NoRead name = ⊥

-- it ended so, or memory ran out
abbrev pub IsOrMemory : (Ending → Type 0) → Ending → Type 0
IsOrMemory Due ending = Due ending ⊎ (ending ≡ out_of_memory)
