-- What the segments of an executable are (ELF-64, program header).
use Rattle.std.specs.Prelude.{ℕ, ◌+◌, ◌^◌, ◌≤◌, ◌<◌, List, length, All, AllPairs}
use Rattle.elf_image.specs.declared.image.Segment.{Segment}

-- an executable as clauses see it: the address of its first instruction, and its segments
pub record Executable : Type 0 where
  pub entry : ℕ
  pub segs : List Segment

-- a segment has a byte at least, ends below 2^64 and has no more file bytes than bytes
pub record IsSegment (s : Segment) : Type 0 where
  pub not_empty : 1 ≤ s.size
  pub ends : s.lo + s.size < 2 ^ 64
  pub holds_file : length s.bytes ≤ s.size

-- each is a segment, and each ends where a later one begins or before that
pub record AreSegments (segs : List Segment) : Type 0 where
  pub each : All IsSegment segs
  pub ascend : AllPairs (λ s later. s.lo + s.size ≤ later.lo) segs
