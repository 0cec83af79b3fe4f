-- Which instruction stands at an address of an executable (Intel SDM volume 2, chapter 2).
use Rattle.std.specs.Prelude.{◌≡◌, ◌↔◌, ℕ, IsTrue, if◌then◌else◌, List, Option, Some, None}
use Rattle.elf_image.specs.declared.image.Image.{Image}
use Rattle.elf_image.specs.Image.{code_of}
use Rattle.x86_instr.specs.declared.instr.Instr.{Instr}
use Rattle.x86_spelling.specs.Spells.{SpellsPrefix}
use Rattle.x86_decode.specs.Reading.{are_bytes, first_instr}

-- the instruction has the address, and one of its spellings is a prefix of the code there
pub record IsAt (image : Image) (at : ℕ) (i : Instr) : Type 0 where
  pub address : i.addr ≡ at
  pub bytes : IsTrue (are_bytes (code_of image at))
  pub spelled : SpellsPrefix i (code_of image at)

-- the instruction with which a code begins at an address, as the decoder reads it
unfoldable pub instr_in : ℕ → List ℕ → Option Instr
instr_in at code = if are_bytes code then first_instr at code else None

-- IsAt as a function, to be read by `InstrAtLaw` alone
abbrev pub instr_at : Image → ℕ → Option Instr
instr_at image at = instr_in at (code_of image at)

-- a look-up gives at each address the instruction that stands there, and None where none does
abbrev pub IsLookup : Image → (ℕ → Option Instr) → Type 0
IsLookup image look_up = (at : ℕ) (i : Instr) → (look_up at ≡ Some i) ↔ IsAt image at i

-- the function is such a look-up
abbrev pub InstrAtLaw : Type 0
InstrAtLaw = (image : Image) → IsLookup image (instr_at image)

-- there is one
abbrev pub OneLookupLaw : Type 0
OneLookupLaw =
    (image : Image) (first second : ℕ → Option Instr) →
    IsLookup image first → IsLookup image second → first ≡ second
