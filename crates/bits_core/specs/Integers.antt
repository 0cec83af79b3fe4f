-- Which integer the low bits of a number stand for, unsigned or signed, and which low bits an
-- integer has (Intel SDM volume 1, 4.2.1, unsigned integers and two's complement).
use Rattle.std.specs.Prelude.{ℕ, ◌-◌, ◌%◌, ◌^◌, nat_le, if◌then◌else◌, Bool, ◌&&◌}
use Rattle.std.specs.Prelude.{ℤ, pos, negsuc, neg_ℤ, ◌-ℤ◌, int_lt, int_le}
use Rattle.bits_core.specs.declared.width.Width.{Width}
use Rattle.bits_core.specs.Width.{bits_of}
use Rattle.bits_core.specs.LowBits.{cut_of}

-- the least integer that a width does not hold, unsigned: 2^width; signed: 2^(width - 1)
abbrev pub end_of : Width → Bool → ℕ
end_of w signed = if signed then 2 ^ (bits_of w - 1) else 2 ^ bits_of w

-- the integer that the low bits of a number stand for
abbrev pub integer_of : Width → Bool → ℕ → ℤ
integer_of w signed x =
    if nat_le (end_of w signed) (cut_of w x)
    then pos (cut_of w x) -ℤ pos (2 ^ bits_of w)
    else pos (cut_of w x)

-- the least integer that a width holds
abbrev pub start_of : Width → Bool → ℤ
start_of w signed = if signed then neg_ℤ (pos (2 ^ (bits_of w - 1))) else pos 0

-- an integer lies in the range of a width
abbrev pub is_in_range : Width → Bool → ℤ → Bool
is_in_range w signed n =
    int_le (start_of w signed) n && int_lt n (pos (end_of w signed))

-- the number below 2^width that differs from an integer by a multiple of 2^width
abbrev pub residue_of : Width → ℤ → ℕ
residue_of w (pos n) = n % 2 ^ bits_of w
residue_of w (negsuc n) = 2 ^ bits_of w - 1 - n % 2 ^ bits_of w
