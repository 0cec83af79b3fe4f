-- The values of the symbols of an activation: those at its beginning, and the names of sites.
use Rattle.std.specs.Prelude.{◌≡◌, ℕ, ◌==◌, if◌then◌else◌, Option, Some, None}
use Rattle.sym_terms.specs.Value.{Valuation}
use Rattle.x86_machine.specs.Memory.{loaded}
use Rattle.x86_instr.specs.Registers.{rsp}
use Rattle.x86_machine.specs.State.{State, IsState, reg}

-- the eight bytes at an address, as a number
abbrev pub word : (ℕ → ℕ) → ℕ → ℕ
word memory at = loaded memory 8 at

-- the symbols of an activation that begins in a state: its registers, return address and FS base, and no name
abbrev pub fresh : State → Valuation
fresh s = record { entry = λ r. reg s r; ra = word s.memory (reg s rsp); fs = s.fs_base; named = λ a. 0 }

-- the valuation in which the name of the site at an address has a value
abbrev pub with_name : Valuation → ℕ → ℕ → Valuation
with_name u a n = record u { named = λ b. if b == a then n else u.named b }

-- the same, where there is a value
abbrev pub renamed : Valuation → ℕ → Option ℕ → Valuation
renamed u a None = u
renamed u a (Some n) = with_name u a n

-- the entry symbols are those of a state, which is in range
pub record Began (u : Valuation) (s : State) : Type 0 where
  pub state : IsState s
  pub entry : (r : ℕ) → u.entry r ≡ reg s r
  pub return_address : u.ra ≡ word s.memory (reg s rsp)
  pub fs_base : u.fs ≡ s.fs_base
