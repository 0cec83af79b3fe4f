-- The numbers of ELF-64 by their names, and the limits on an executable.
use Rattle.std.specs.Prelude.{ℕ, List, ◌∷◌, codes}

-- the bytes of the file header
abbrev pub file_header_size : ℕ
file_header_size = 64

-- the bytes of a program header
abbrev pub program_header_size : ℕ
program_header_size = 56

-- the magic number (e_ident)
abbrev pub magic : List ℕ
magic = 0x7F ∷ codes "ELF"

-- ELFCLASS64: objects of 64 bits (e_ident)
abbrev pub class_64 : ℕ
class_64 = 2

-- ELFDATA2LSB: numbers in little-endian order (e_ident)
abbrev pub little_endian : ℕ
little_endian = 1

-- EV_CURRENT: the version of the format (e_ident)
abbrev pub current_version : ℕ
current_version = 1

-- ET_EXEC: an executable at fixed addresses (e_type)
abbrev pub executable_type : ℕ
executable_type = 2

-- EM_X86_64 (e_machine)
abbrev pub x86_64_machine : ℕ
x86_64_machine = 62

-- PT_LOAD: a segment that is loaded (p_type)
abbrev pub load_type : ℕ
load_type = 1

-- PF_X: an executable segment (p_flags)
abbrev pub executable_flag : ℕ
executable_flag = 1

-- PF_W: a writable segment (p_flags)
abbrev pub writable_flag : ℕ
writable_flag = 2

-- the most program headers of an executable
abbrev pub most_headers : ℕ
most_headers = 64

-- the most bytes of an instruction (Intel SDM volume 2, section 2.3.11)
abbrev pub most_instruction_bytes : ℕ
most_instruction_bytes = 15
