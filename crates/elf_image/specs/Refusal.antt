-- Why a file gives no image, the lowest reason first (ELF-64, file header and program header).
use Rattle.std.specs.Prelude.{ℕ, ◌+◌, ◌*◌, ◌^◌, ◌==◌, Bool, not, cond, List, [], ◌∷◌, ◌++◌, length, drop, zip, codes, nat_lt, nat_le, nat_eq, slice_index, Some, None}
use Rattle.std.specs.declared.option.Option.{Option}
use Rattle.std.specs.List.{list_any, starts_with}
use Rattle.elf_image.specs.declared.header.ProgramHeader.{ProgramHeader}
use Rattle.elf_image.specs.declared.refusal.ElfRefusal.{ElfRefusal}
use Rattle.elf_image.specs.declared.refusal.ElfRefusal.TheVariants.{TooShort, BadMagic, NotClass64, NotLittle, BadVersion, NotExec, NotX8664, BadEntrySize, TableOutside, TooManyHeaders, NoLoad, SegmentOutside, SegmentWraps, FileOverMemory, SegmentsUnordered, NoMemory}
use Rattle.elf_image.specs.Constants.{file_header_size, program_header_size, magic, class_64, little_endian, current_version, executable_type, x86_64_machine, most_headers}
use Rattle.elf_image.specs.File.{type_of, machine_of, table_of, entry_size_of, count_of, loaded_of}

-- a refusal with the test of the files that it is for
abbrev pub Tests : Type 0
Tests = List (Bool × ElfRefusal)

-- the refusal of the first test that is true
abbrev pub first_refusal : Tests → Option ElfRefusal
first_refusal [] = None
first_refusal (test ∷ rest) = cond test.0 (Some test.1) (first_refusal rest)

-- the length of the file, and e_ident: magic number, class, byte order and version
unfoldable pub identification_tests : List ℕ → Tests
identification_tests file =
    (nat_lt (length file) file_header_size, TooShort)
    ∷ (not (starts_with nat_eq file magic), BadMagic)
    ∷ (not (slice_index file 4 == class_64), NotClass64)
    ∷ (not (slice_index file 5 == little_endian), NotLittle)
    ∷ (not (slice_index file 6 == current_version), BadVersion)
    ∷ []

-- type, machine, and the place, size and number of the program headers
unfoldable pub header_tests : List ℕ → Tests
header_tests file =
    (not (type_of file == executable_type), NotExec)
    ∷ (not (machine_of file == x86_64_machine), NotX8664)
    ∷ (not (entry_size_of file == program_header_size), BadEntrySize)
    ∷ (nat_lt (length file) (table_of file + program_header_size * count_of file), TableOutside)
    ∷ (nat_lt most_headers (count_of file), TooManyHeaders)
    ∷ []

-- the file part ends past the end of a file of this length
abbrev pub is_outside : ℕ → ProgramHeader → Bool
is_outside size h = nat_lt size (h.offset + h.file_size)

-- the segment ends at 2^64 or past it
abbrev pub wraps : ProgramHeader → Bool
wraps h = nat_le (2 ^ 64) (h.address + h.memory_size)

-- there are more bytes in the file than in memory
abbrev pub is_over_memory : ProgramHeader → Bool
is_over_memory h = nat_lt h.memory_size h.file_size

-- the second begins before the first ends
abbrev pub overlaps : ProgramHeader × ProgramHeader → Bool
overlaps pair = nat_lt pair.1.address (pair.0.address + pair.0.memory_size)

-- the headers that load something, in a file of this length
unfoldable pub segment_tests : ℕ → List ProgramHeader → Tests
segment_tests size loaded =
    (length loaded == 0, NoLoad)
    ∷ (list_any (is_outside size) loaded, SegmentOutside)
    ∷ (list_any wraps loaded, SegmentWraps)
    ∷ (list_any is_over_memory loaded, FileOverMemory)
    ∷ (list_any overlaps (zip loaded (drop 1 loaded)), SegmentsUnordered)
    ∷ []

-- the lowest refusal that applies to a file
unfoldable pub refusal_of : List ℕ → Option ElfRefusal
refusal_of file =
    first_refusal (
    identification_tests file
    ++ header_tests file
    ++ segment_tests (length file) (loaded_of file)
    )

-- the place of a refusal among the tests, from 1 on
abbrev pub number_of_refusal : ElfRefusal → ℕ
number_of_refusal TooShort = 1
number_of_refusal BadMagic = 2
number_of_refusal NotClass64 = 3
number_of_refusal NotLittle = 4
number_of_refusal BadVersion = 5
number_of_refusal NotExec = 6
number_of_refusal NotX8664 = 7
number_of_refusal BadEntrySize = 8
number_of_refusal TableOutside = 9
number_of_refusal TooManyHeaders = 10
number_of_refusal NoLoad = 11
number_of_refusal SegmentOutside = 12
number_of_refusal SegmentWraps = 13
number_of_refusal FileOverMemory = 14
number_of_refusal SegmentsUnordered = 15
number_of_refusal NoMemory = 0

-- its name
abbrev pub name_of_refusal : ElfRefusal → List ℕ
name_of_refusal TooShort = codes "TooShort"
name_of_refusal BadMagic = codes "BadMagic"
name_of_refusal NotClass64 = codes "NotClass64"
name_of_refusal NotLittle = codes "NotLittle"
name_of_refusal BadVersion = codes "BadVersion"
name_of_refusal NotExec = codes "NotExec"
name_of_refusal NotX8664 = codes "NotX8664"
name_of_refusal BadEntrySize = codes "BadEntrySize"
name_of_refusal TableOutside = codes "TableOutside"
name_of_refusal TooManyHeaders = codes "TooManyHeaders"
name_of_refusal NoLoad = codes "NoLoad"
name_of_refusal SegmentOutside = codes "SegmentOutside"
name_of_refusal SegmentWraps = codes "SegmentWraps"
name_of_refusal FileOverMemory = codes "FileOverMemory"
name_of_refusal SegmentsUnordered = codes "SegmentsUnordered"
name_of_refusal NoMemory = codes "NoMemory"
