-- The bits that are set in bytes.
use Rattle.std.specs.Prelude.{ℕ, List, sum_by, count_ones}

-- how many there are, byte by byte
abbrev pub bits_set : List ℕ → ℕ
bits_set bytes = sum_by count_ones bytes
