-- The lines that `show` prints.
use Rattle.std.specs.Prelude.{◌≡◌, ℕ, ◌+◌, ◌%◌, ◌^◌, zero, suc, List, [], ◌++◌, take, codes, Some, None}
use Rattle.std.specs.declared.option.Option.{Option}
use Rattle.hex.specs.Hex.{encode_lower}
use Rattle.elf_image.specs.declared.image.Image.{Image}
use Rattle.elf_image.specs.Image.{code_of}
use Rattle.graph_lines.specs.Text.{hex}
use Rattle.x86_instr.specs.declared.instr.Instr.{Instr}
use Rattle.x86_text.specs.InstructionText.{text_of}
use Rattle.instr_at.specs.At.{IsLookup}

-- the address of the next instruction
abbrev pub next_address : ℕ → Instr → ℕ
next_address addr i = (addr + i.len) % 2 ^ 64

-- the address of an instruction, its bytes of the code there in hexadecimal, and its text
unfoldable pub instruction_line : ℕ → List ℕ → Instr → List ℕ
instruction_line addr code i =
    hex addr ++ codes " " ++ encode_lower (take i.len code) ++ codes " " ++ text_of i ++ codes "\n"

-- the address where no instruction stands
unfoldable pub none_line : ℕ → List ℕ
none_line addr = hex addr ++ codes " none\n"

-- the line of what stands at an address, and after an instruction the lines that follow
abbrev pub line_then : Image → ℕ → (ℕ → List ℕ) → Option Instr → List ℕ
line_then image addr rest None = none_line addr
line_then image addr rest (Some i) =
    instruction_line addr (code_of image addr) i ++ rest (next_address addr i)

-- the lines of at most n instructions from an address on, by a look-up of instructions
unfoldable pub listing : (ℕ → Option Instr) → Image → ℕ → ℕ → List ℕ
listing look_up image zero addr = []
listing look_up image (suc n) addr =
    line_then image addr (listing look_up image n) (look_up addr)

-- these are the lines of at most n instructions of an executable from an address on
pub record IsListing (image : Image) (n addr : ℕ) (lines : List ℕ) : Type 0 where
  pub look_up : ℕ → Option Instr
  pub found : IsLookup image look_up
  pub lines_are : lines ≡ listing look_up image n addr
