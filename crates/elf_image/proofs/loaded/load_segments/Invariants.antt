-- The segments of the headers so far.
use Rattle.std.proofs.Common.{◌≡◌, map, take}
use Rattle.elf_image.specs.Loaded.{segment_of}
use Rattle.elf_image.proofs.loaded.load_segments.Given as goal

abbrev pub invariant-loop-header : goal.invariant-loop-header
invariant-loop-header l = l.segs ≡ map (segment_of l.file) (take l.header-index l.headers)
