-- What add, or, adc, sbb, and, sub and xor give and how they set CF, ZF, SF and OF
-- (Intel SDM volume 2, the instructions of these names; volume 1, 3.4.3.1, status flags).
use Rattle.std.specs.Prelude.{ℕ, ◌-◌, ◌^◌, ◌==◌, nat_le, Bool, true, false, not}
use Rattle.std.specs.Prelude.{ℤ, pos, ◌+ℤ◌, ◌-ℤ◌, bit_and, bit_or, bit_xor}
use Rattle.std.specs.Int.{from_bool}
use Rattle.bits_core.specs.declared.width.Width.{Width}
use Rattle.bits_core.specs.declared.flags.Flags.{Flags}
use Rattle.bits_core.specs.declared.operations.Alu.{Alu}
use Rattle.bits_core.specs.declared.operations.Alu.TheVariants.{Add, Or, Adc, Sbb, And, Sub, Xor}
use Rattle.bits_core.specs.Width.{bits_of}
use Rattle.bits_core.specs.LowBits.{cut_of}
use Rattle.bits_core.specs.Integers.{integer_of, is_in_range, residue_of}

-- the flags of a result: ZF where it is 0, SF its highest bit
abbrev pub flags_of : Width → ℕ → Bool → Bool → Flags
flags_of w value carry over =
    let sign = nat_le (2 ^ (bits_of w - 1)) value in
    record { carry = carry; zero = value == 0; sign = sign; over = over }

-- a result of exact arithmetic, unsigned and signed: its low bits; CF where the unsigned one is
-- outside the unsigned range (a carry or a borrow), OF where the signed one is outside the signed
abbrev pub exactly : Width → ℤ → ℤ → ℕ × Flags
exactly w unsigned signed =
    let value = residue_of w unsigned in
    let carry = not (is_in_range w false unsigned) in
    let over = not (is_in_range w true signed) in
    (value, flags_of w value carry over)

-- the exact sum with the carry that comes in, of the operands as unsigned or signed integers
abbrev pub exact_sum_of : Width → Bool → ℕ → ℕ → Bool → ℤ
exact_sum_of w signed a b carry =
    integer_of w signed a +ℤ integer_of w signed b +ℤ pos (from_bool carry)

-- the exact difference with the borrow that comes in
abbrev pub exact_difference_of : Width → Bool → ℕ → ℕ → Bool → ℤ
exact_difference_of w signed a b borrow =
    integer_of w signed a -ℤ integer_of w signed b -ℤ pos (from_bool borrow)

-- a + b, and one more where the carry is set, and its flags
abbrev pub sum_of : Width → ℕ → ℕ → Bool → ℕ × Flags
sum_of w a b carry = exactly w (exact_sum_of w false a b carry) (exact_sum_of w true a b carry)

-- a - b, less one where the carry is set, and its flags
abbrev pub difference_of : Width → ℕ → ℕ → Bool → ℕ × Flags
difference_of w a b borrow =
    exactly w (exact_difference_of w false a b borrow) (exact_difference_of w true a b borrow)

-- a result bit by bit, which clears CF and OF
abbrev pub logical_of : Width → ℕ → ℕ × Flags
logical_of w x = (cut_of w x, flags_of w (cut_of w x) false false)

-- the low bits of the result, and the flags
abbrev pub alu_of : Alu → Width → ℕ → ℕ → Bool → ℕ × Flags
alu_of Add w a b carry = sum_of w a b false
alu_of Or w a b carry = logical_of w (bit_or a b)
alu_of Adc w a b carry = sum_of w a b carry
alu_of Sbb w a b carry = difference_of w a b carry
alu_of And w a b carry = logical_of w (bit_and a b)
alu_of Sub w a b carry = difference_of w a b false
alu_of Xor w a b carry = logical_of w (bit_xor a b)

-- the flags of a subtraction, as cmp and sub set them
abbrev pub compared : Width → ℕ → ℕ → Flags
compared w a b = (alu_of Sub w a b false).1
