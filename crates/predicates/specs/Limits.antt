-- The limits on a predicate.
use Rattle.std.specs.Prelude.{ℕ}

-- the registers
abbrev pub registers : ℕ
registers = 16

-- the most bounds of a predicate
abbrev pub most_bounds : ℕ
most_bounds = 16

-- the most numbers of a list of values
abbrev pub most_numbers : ℕ
most_numbers = 1024
