-- What is lifted: an executable, the addresses that are outside, and the indirect jumps that are open.
use Rattle.std.specs.Prelude.{ℕ, ◌==◌, Bool, true, false, ◌&&◌, not, List, []}
use Rattle.std.specs.List.{list_any}
use Rattle.elf_image.specs.declared.image.Image.{Image}
use Rattle.memory_regions.specs.Relate.{Known}
use Rattle.x86_instr.specs.declared.instr.Operand.{Operand}
use Rattle.x86_instr.specs.declared.instr.Operand.TheVariants as operand
use Rattle.x86_instr.specs.declared.instr.Instr.{Instr}
use Rattle.site_lines.specs.declared.subject.Program.{Program}

-- what is lifted
pub record Subject : Type 0 where
  pub image : Image
  pub externs : List ℕ
  pub opened : List ℕ

-- what a program refers to
abbrev pub subject_of : Program → Subject
subject_of p = record { image = p.image.now; externs = p.externs.now; opened = p.opened.now }

-- whether an address is in a list
abbrev pub is_listed : ℕ → List ℕ → Bool
is_listed a addresses = list_any (λ b. b == a) addresses

-- the bytes below the entry's stack pointer that a lifted function has as its frame
abbrev pub frame_below : ℕ
frame_below = 65536

-- the bytes above it
abbrev pub frame_above : ℕ
frame_above = 4096

-- what is assumed at a site without a pair
abbrev pub bare : Image → Known
bare image = record { image = image; below = frame_below; above = frame_above; seps = [] }

-- whether a jump goes to what its operand holds
abbrev pub is_indirect : Operand → Bool
is_indirect operand.None = true
is_indirect (operand.Reg r) = true
is_indirect (operand.High r) = true
is_indirect (operand.Imm n) = false
is_indirect (operand.Mem pl) = true

-- whether a jump at an address is indirect and not open
abbrev pub is_shut : Subject → ℕ → Instr → Bool
is_shut s address i = is_indirect i.dst && not (is_listed address s.opened)
