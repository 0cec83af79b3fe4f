-- The headers so far that load something.
use Rattle.std.proofs.Common.{◌≡◌, ◌+◌, ◌*◌, map, filter}
use Rattle.std.specs.List.{range_with_len}
use Rattle.elf_image.specs.File.{table_of, header_at, is_loaded}
use Rattle.elf_image.proofs.loaded.loaded_headers.Given as goal

abbrev pub invariant-loop-k : goal.invariant-loop-k
invariant-loop-k l = l.loaded ≡ filter is_loaded (map (λ k. header_at l.file (table_of l.file + 56 * k)) (range_with_len 0 l.k))
