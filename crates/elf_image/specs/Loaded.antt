-- The image of a file (ELF-64, program header).
use Rattle.std.specs.Prelude.{◌≡◌, ℕ, ◌==◌, Bool, not, List, map, take, drop, bit_and, None}
use Rattle.elf_image.specs.declared.header.ProgramHeader.{ProgramHeader}
use Rattle.elf_image.specs.declared.image.Segment.{Segment}
use Rattle.elf_image.specs.declared.image.Image.{Image}
use Rattle.elf_image.specs.Constants.{executable_flag, writable_flag}
use Rattle.elf_image.specs.File.{entry_of, loaded_of}
use Rattle.elf_image.specs.Refusal.{refusal_of}

-- a bit of p_flags is set
abbrev pub has_flag : ℕ → ProgramHeader → Bool
has_flag flag h = not (bit_and h.flags flag == 0)

-- p_memsz bytes at p_vaddr, of which the first are the p_filesz bytes of the file from p_offset on
abbrev pub segment_of : List ℕ → ProgramHeader → Segment
segment_of file h = record {
  lo = h.address;
  size = h.memory_size;
  bytes = take h.file_size (drop h.offset file);
  exec = has_flag executable_flag h;
  write = has_flag writable_flag h;
}

-- the entry, and a segment for each header that loads something
abbrev pub image_of : List ℕ → Image
image_of file = record { entry = entry_of file; segs = map (segment_of file) (loaded_of file) }

-- a file that no refusal applies to, and its image
abbrev pub IsImageOf : List ℕ → Image → Type 0
IsImageOf file image = (refusal_of file ≡ None) × (image ≡ image_of file)
