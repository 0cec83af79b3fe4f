-- The fields of an ELF-64 file by their places in it (ELF-64, file header and program header).
use Rattle.std.specs.Prelude.{ℕ, ◌+◌, ◌*◌, ◌==◌, ◌&&◌, Bool, not, List, map, drop, filter}
use Rattle.std.specs.List.{range_with_len}
use Rattle.byteorder.specs.Endian.{little_number}
use Rattle.elf_image.specs.declared.header.ProgramHeader.{ProgramHeader}
use Rattle.elf_image.specs.Constants.{program_header_size, load_type}

-- the little-endian number in the n bytes from a place on
unfoldable pub number_at : ℕ → ℕ → List ℕ → ℕ
number_at n at file = little_number n (drop at file)

-- e_type
abbrev pub type_of : List ℕ → ℕ
type_of file = number_at 2 16 file

-- e_machine
abbrev pub machine_of : List ℕ → ℕ
machine_of file = number_at 2 18 file

-- e_entry
abbrev pub entry_of : List ℕ → ℕ
entry_of file = number_at 8 24 file

-- e_phoff, where the program headers begin
abbrev pub table_of : List ℕ → ℕ
table_of file = number_at 8 32 file

-- e_phentsize
abbrev pub entry_size_of : List ℕ → ℕ
entry_size_of file = number_at 2 54 file

-- e_phnum
abbrev pub count_of : List ℕ → ℕ
count_of file = number_at 2 56 file

-- p_type, p_flags, p_offset, p_vaddr, p_filesz and p_memsz of the program header at a place
abbrev pub header_at : List ℕ → ℕ → ProgramHeader
header_at file at = record {
  kind = number_at 4 at file;
  flags = number_at 4 (at + 4) file;
  offset = number_at 8 (at + 8) file;
  address = number_at 8 (at + 16) file;
  file_size = number_at 8 (at + 32) file;
  memory_size = number_at 8 (at + 40) file;
}

-- the program headers: as many as e_phnum says, one after the other, from e_phoff on
abbrev pub headers_of : List ℕ → List ProgramHeader
headers_of file =
    map (λ k. header_at file (table_of file + program_header_size * k)) (range_with_len 0 (count_of file))

-- the header is of type PT_LOAD, and not both of its sizes are 0
abbrev pub is_loaded : ProgramHeader → Bool
is_loaded h = (h.kind == load_type) && not ((h.file_size == 0) && (h.memory_size == 0))

-- the program headers that load something
abbrev pub loaded_of : List ℕ → List ProgramHeader
loaded_of file = filter is_loaded (headers_of file)
