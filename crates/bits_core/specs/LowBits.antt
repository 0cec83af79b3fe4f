-- What the low bits of a number are, alone and extended by their sign (Intel SDM volume 2, MOVSX).
use Rattle.std.specs.Prelude.{ℕ, ◌+◌, ◌-◌, ◌%◌, ◌^◌}
use Rattle.std.specs.Prelude.{nat_lt, if◌then◌else◌}
use Rattle.bits_core.specs.declared.width.Width.{Width}
use Rattle.bits_core.specs.Width.{bits_of}

-- the low bits of a number
abbrev pub cut_of : Width → ℕ → ℕ
cut_of w x = x % 2 ^ bits_of w

-- a number below 2^width whose highest bit is the sign, extended by it to 64 bits
abbrev pub extended : Width → ℕ → ℕ
extended w low = if nat_lt low (2 ^ (bits_of w - 1)) then low else low + (2 ^ 64 - 2 ^ bits_of w)

-- the low bits of a number, extended by their sign to 64 bits
abbrev pub sext_of : Width → ℕ → ℕ
sext_of w x = extended w (cut_of w x)
