-- How a number is spelled, and how its looser spellings are read.
use Rattle.std.specs.Prelude.{ℕ, ◌+◌, ◌*◌, ◌^◌, Bool, true, false, ◌&&◌, ◌==◌, nat_lt, if◌then◌else◌, List, [], ◌∷◌, ◌++◌, codes, Option, Some, None}
use Rattle.std.specs.Char.{digit_value}
use Rattle.std.specs.Fmt.{decimal, digits}
use Rattle.term_text.specs.Bytes.{digit_0, letter_x}

-- 0 to 9999 in decimal; others as `0x` and lower-case hexadecimal without leading zeros
abbrev pub number_text : ℕ → List ℕ
number_text n = if nat_lt n 10000 then decimal n else codes "0x" ++ digits 16 false n

-- hexadecimal or decimal
abbrev pub radix : Bool → ℕ
radix hex = if hex then 16 else 10

-- the number n with one digit more, of either case; None where the byte is no digit of the radix,
-- or where that has over 64 bits
abbrev pub pushed_digit : Bool → ℕ → ℕ → Option ℕ
pushed_digit hex n byte =
    if nat_lt (digit_value byte) (radix hex) && nat_lt (n * radix hex + digit_value byte) (2 ^ 64)
    then Some (n * radix hex + digit_value byte)
    else None

-- the number n with the digits more
abbrev pub digits_at : Bool → ℕ → List ℕ → Option ℕ
digits_at hex n [] = Some n
digits_at hex n (byte ∷ bytes) =
    elim (pushed_digit hex n byte) as (λ o. Option ℕ) [
      | None ↦ None
      | Some m ↦ digits_at hex m bytes
    ]

-- the number below 2^64 that one or more digits spell, leading zeros allowed
abbrev pub numeral_at : Bool → List ℕ → Option ℕ
numeral_at hex [] = None
numeral_at hex (byte ∷ bytes) = digits_at hex 0 (byte ∷ bytes)

-- the number below 2^64 that decimal digits spell, or `0x` and hexadecimal digits
abbrev pub number_at : List ℕ → Option ℕ
number_at [] = None
number_at (a ∷ []) = numeral_at false (a ∷ [])
number_at (a ∷ b ∷ bytes) =
    if (a == digit_0) && (b == letter_x)
    then numeral_at true bytes
    else numeral_at false (a ∷ b ∷ bytes)
