-- The addresses of code that stand in an executable's data.
use Rattle.std.specs.Prelude.{◌↔◌, ℕ, ◌+◌, IsTrue, if◌then◌else◌, List, [], length, Contains, filter}
use Rattle.std.specs.List.{flat_map}
use Rattle.std.specs.List.Sorted.{IsStrictlyIncreasing}
use Rattle.elf_image.specs.declared.image.Image.{Image}
use Rattle.elf_image.specs.declared.image.Segment.{Segment}
use Rattle.elf_image.specs.Image.{is_code_at}
use Rattle.root_scan.specs.Words.{is_within, words_from}

-- the words in the file bytes of a segment that is not executable
abbrev pub data_words : Segment → List ℕ
data_words s = if s.exec then [] else words_from s.lo s.bytes

-- those of all the segments
abbrev pub all_data_words : List Segment → List ℕ
all_data_words segments = flat_map data_words segments

-- a word of the data that is an address of code
abbrev pub IsRoot : Image → ℕ → Type 0
IsRoot image root =
    Contains (all_data_words image.segs) root × IsTrue (is_code_at image root)

-- the roots: those of the words that are addresses of code, ascending, each once
pub record AreRoots (image : Image) (roots : List ℕ) : Type 0 where
  pub ascending : IsStrictlyIncreasing roots
  pub members : (root : ℕ) → Contains roots root ↔ IsRoot image root

-- the words of the data between the ends of the file bytes of an executable segment
abbrev pub pointers_to : List Segment → Segment → List ℕ
pointers_to segments s =
    if s.exec then filter (is_within s.lo (s.lo + length s.bytes)) (all_data_words segments) else []
