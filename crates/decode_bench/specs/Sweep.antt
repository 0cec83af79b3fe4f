-- Going through code from its first byte, from instruction to instruction (a linear sweep).
use Rattle.std.specs.Prelude.{◌≡◌, ℕ, ◌+◌, ◌<◌, List, drop, length}
use Rattle.x86_instr.specs.declared.instr.Instr.{Instr}
use Rattle.x86_spelling.specs.Spells.{SpellsPrefix}

-- an instruction at an address begins the bytes there
abbrev pub Begins : ℕ → List ℕ → Instr → Type 0
Begins at bytes i = (i.addr ≡ at) × SpellsPrefix i bytes

-- it comes to an offset past a number of instructions and a number of bytes at which none begins
pub data Sweeps (code : List ℕ) : ℕ → ℕ → ℕ → Type 0 where
  begins : Sweeps code 0 0 0
  by_instruction :
      (at instructions others : ℕ) (i : Instr) →
      at < length code → Begins at (drop at code) i →
      Sweeps code at instructions others →
      Sweeps code (at + i.len) (instructions + 1) others
  by_byte :
      (at instructions others : ℕ) →
      at < length code → ((i : Instr) → Begins at (drop at code) i → ⊥) →
      Sweeps code at instructions others →
      Sweeps code (at + 1) instructions (others + 1)
