-- Marks, one bit each, eight in a byte, the lowest bit first.
use Rattle.std.specs.Prelude.{ℕ, zero, suc, ◌+◌, ◌/◌, ◌%◌, Bool, List, if◌then◌else◌, slice_index}
use Rattle.std.specs.Int.{bit_at}

-- 1 for true
abbrev pub flag : Bool → ℕ
flag b = if b then 1 else 0

-- the mark of a place
abbrev pub mark_at : List ℕ → ℕ → ℕ
mark_at bits place = bit_at (slice_index bits (place / 8)) (place % 8)

-- how many of the first so many places are marked
abbrev pub marked_below : List ℕ → ℕ → ℕ
marked_below bits zero = 0
marked_below bits (suc place) = marked_below bits place + mark_at bits place
