-- Tests that a segment passes only where it has an address.
use Rattle.std.specs.Prelude.{◌≡◌, ℕ, ◌+◌, ◌≤◌, ◌<◌, Bool, true, cond, Some, None}
use Rattle.std.specs.declared.option.Option.{Option}
use Rattle.elf_image.specs.declared.image.Segment.{Segment}
use Rattle.elf_image.specs.Segments.{IsSegment}

-- a segment that passes the test has the address
pub record IsAt (addr : ℕ) (test : Segment → Bool) : Type 0 where
  pub begins : (s : Segment) → test s ≡ true → s.lo ≤ addr
  pub ends : (s : Segment) → IsSegment s → test s ≡ true → addr < s.lo + s.size

-- a segment where it passes the test
abbrev pub kept : (Segment → Bool) → Option Segment → Option Segment
kept test None = None
kept test (Some s) = cond (test s) (Some s) None
