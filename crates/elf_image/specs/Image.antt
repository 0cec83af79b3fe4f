-- What stands at an address of a loaded executable (ELF-64, program header).
use Rattle.std.specs.Prelude.{ℕ, ◌+◌, ◌-◌, ◌==◌, ◌&&◌, ◌||◌, ◌++◌, Bool, not, List, [], length, take, drop, replicate, nat_lt, nat_le, find, Some, None}
use Rattle.std.specs.declared.option.Option.{Option}
use Rattle.std.specs.List.{list_any}
use Rattle.byteorder.specs.Endian.{little_number}
use Rattle.elf_image.specs.declared.image.Segment.{Segment}
use Rattle.elf_image.specs.declared.image.Image.{Image}
use Rattle.elf_image.specs.Segments.{AreSegments}
use Rattle.elf_image.specs.Constants.{most_instruction_bytes}

-- the segments of an image ascend and do not overlap
abbrev pub IsImage : Image → Type 0
IsImage image = AreSegments image.segs

-- the address is one of the segment's file bytes, and the segment is executable
abbrev pub has_code_at : ℕ → Segment → Bool
has_code_at addr s = s.exec && nat_le s.lo addr && nat_lt addr (s.lo + length s.bytes)

-- the file bytes of the executable segment from the address on, at most those of an instruction
abbrev pub code_in : ℕ → Option Segment → List ℕ
code_in addr (Some s) = take most_instruction_bytes (drop (addr - s.lo) s.bytes)
code_in addr None = []

-- the code at an address
abbrev pub code_of : Image → ℕ → List ℕ
code_of image addr = code_in addr (find (has_code_at addr) image.segs)

-- an address is code where such bytes stand there
abbrev pub is_code_at : Image → ℕ → Bool
is_code_at image addr = not (length (code_of image addr) == 0)

-- n bytes from the address on lie in the segment
abbrev pub holds_bytes : ℕ → ℕ → Segment → Bool
holds_bytes addr n s = nat_le s.lo addr && nat_le (addr + n) (s.lo + s.size)

-- they lie in one segment
abbrev pub covers_bytes : Image → ℕ → ℕ → Bool
covers_bytes image addr n = list_any (holds_bytes addr n) image.segs

-- the bytes of a segment as it is loaded: those of the file, then zeros
abbrev pub memory_of : Segment → List ℕ
memory_of s = s.bytes ++ replicate (s.size - length s.bytes) 0

-- the program does not change the segment: it is not writable, or it is code
abbrev pub is_fixed : Segment → Bool
is_fixed s = not s.write || s.exec

-- the little-endian number in n bytes from the address on, of such a segment
abbrev pub number_in : ℕ → ℕ → Option Segment → Option ℕ
number_in addr n (Some s) = Some (little_number n (drop (addr - s.lo) (memory_of s)))
number_in addr n None = None

-- the fixed number at an address
abbrev pub fixed_of : Image → ℕ → ℕ → Option ℕ
fixed_of image addr n =
    number_in addr n (find (λ s. is_fixed s && holds_bytes addr n s) image.segs)
