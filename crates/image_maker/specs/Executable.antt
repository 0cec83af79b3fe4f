-- An executable of one segment, which begins with the headers and is loaded at 400000 (ELF-64, file
-- header and program header).
use Rattle.std.specs.Prelude.{ℕ, ◌+◌, List, [], ◌∷◌, ◌++◌, codes, length, replicate}
use Rattle.byteorder.specs.Endian.{little_bytes}

-- the address at which the file is loaded
abbrev pub load_address : ℕ
load_address = 0x400000

-- the bytes of the file header and of a program header
abbrev pub file_header_size : ℕ
file_header_size = 64

-- the bytes of a program header
abbrev pub program_header_size : ℕ
program_header_size = 56

-- the bytes in front of the code
abbrev pub headers_size : ℕ
headers_size = file_header_size + program_header_size

-- e_ident: the magic number, 64 bits, little-endian, version 1, and nine bytes without meaning
abbrev pub identification : List ℕ
identification = 0x7F ∷ codes "ELF" ++ 2 ∷ 1 ∷ 1 ∷ [] ++ replicate 9 0

-- an executable (e_type 2) for x86-64 (e_machine 62), entered at its code, with one program header
-- and no sections
unfoldable pub file_header : List ℕ
file_header =
    identification
    ++ little_bytes 2 2 ++ little_bytes 2 62 ++ little_bytes 4 1
    ++ little_bytes 8 (load_address + headers_size) ++ little_bytes 8 file_header_size
    ++ little_bytes 8 0 ++ little_bytes 4 0 ++ little_bytes 2 file_header_size
    ++ little_bytes 2 program_header_size ++ little_bytes 2 1
    ++ little_bytes 2 0 ++ little_bytes 2 0 ++ little_bytes 2 0

-- the whole file, of so many bytes, is loaded (PT_LOAD), to be read and run (PF_R, PF_X)
unfoldable pub program_header : ℕ → List ℕ
program_header size =
    little_bytes 4 1 ++ little_bytes 4 5
    ++ little_bytes 8 0 ++ little_bytes 8 load_address ++ little_bytes 8 load_address
    ++ little_bytes 8 size ++ little_bytes 8 size ++ little_bytes 8 0x1000

-- the executable with this code
abbrev pub executable : List ℕ → List ℕ
executable code = file_header ++ program_header (headers_size + length code) ++ code
