-- What mul and imul make of two numbers, and div and idiv of a number of twice the width
-- (Intel SDM volume 2, MUL, IMUL, DIV, IDIV).
use Rattle.std.specs.Prelude.{ℕ, ◌^◌, ◌==◌, Bool, false, Option, Some, None, if◌then◌else◌}
use Rattle.std.specs.Prelude.{ℤ, pos, ◌+ℤ◌, ◌*ℤ◌, int_div, int_rem}
use Rattle.std.specs.Int.{int_shr}
use Rattle.bits_core.specs.declared.width.Width.{Width}
use Rattle.bits_core.specs.Width.{bits_of}
use Rattle.bits_core.specs.LowBits.{cut_of}
use Rattle.bits_core.specs.Integers.{integer_of, is_in_range, residue_of}

-- the low and the high half of an integer of twice the width
abbrev pub halves_of : Width → ℤ → ℕ × ℕ
halves_of w n = (residue_of w n, residue_of w (int_shr n (bits_of w)))

-- the halves of a product
abbrev pub product_of : Width → Bool → ℕ → ℕ → ℕ × ℕ
product_of w signed a b = halves_of w (integer_of w signed a *ℤ integer_of w signed b)

-- the integer whose halves are given
abbrev pub joined_of : Width → Bool → ℕ → ℕ → ℤ
joined_of w signed high low =
    integer_of w signed high *ℤ pos (2 ^ bits_of w) +ℤ integer_of w false low

-- a quotient rounded toward zero, with the remainder, where the quotient fits the width
abbrev pub fitting : Width → Bool → ℤ → ℤ → Option (ℕ × ℕ)
fitting w signed dividend divisor =
    if is_in_range w signed (int_div dividend divisor)
    then Some (residue_of w (int_div dividend divisor), residue_of w (int_rem dividend divisor))
    else None

-- the quotient and the remainder; none where the divisor is 0 or the quotient does not fit
abbrev pub quotient_of : Width → Bool → ℕ → ℕ → ℕ → Option (ℕ × ℕ)
quotient_of w signed high low by =
    if cut_of w by == 0
    then None
    else fitting w signed (joined_of w signed high low) (integer_of w signed by)
