-- What is read from a list of numbers is what a prefix of it spells.
use Rattle.std.specs.Prelude.{◌≡◌, ℕ, IsTrue, List, Some}
use Rattle.x86_instr.specs.declared.instr.Instr.{Instr}
use Rattle.x86_spelling.specs.Spells.{SpellsPrefix}
use Rattle.x86_decode.specs.Reading.{are_bytes, first_instr}

-- what is read has the address, and a prefix of the list spells it
abbrev pub ReadLaw : Type 0
ReadLaw =
    (addr : ℕ) (bytes : List ℕ) (i : Instr) →
    first_instr addr bytes ≡ Some i → (i.addr ≡ addr) × SpellsPrefix i bytes

-- what a prefix of a list of bytes spells is read
abbrev pub SpelledLaw : Type 0
SpelledLaw =
    (bytes : List ℕ) (i : Instr) →
    IsTrue (are_bytes bytes) → SpellsPrefix i bytes → first_instr i.addr bytes ≡ Some i
