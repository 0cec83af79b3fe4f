-- What fits and pairs make of numbers of 64 bits (Intel SDM volume 2: MOVZX, MOVSX, AND, OR, XOR, SHR, SAR).
use Rattle.std.specs.Prelude.{ℕ, ◌*◌, ◌%◌, ◌^◌, bit_and, bit_or, bit_xor}
use Rattle.bits_core.specs.declared.width.Width.TheVariants.{W8, W16, W32, W64}
use Rattle.bits_core.specs.LowBits.{cut_of, sext_of}
use Rattle.bits_core.specs.declared.operations.Shift.TheVariants.{Shr as shift_right, Sar as shift_right_by_sign}
use Rattle.bits_core.specs.Shifts.{shift_of}
use Rattle.sym_terms.specs.declared.kinds.Fit.{Fit}
use Rattle.sym_terms.specs.declared.kinds.Fit.TheVariants.{Zx8, Zx16, Zx32, Sx8, Sx16, Sx32}
use Rattle.sym_terms.specs.declared.kinds.Pair.{Pair}
use Rattle.sym_terms.specs.declared.kinds.Pair.TheVariants.{And, Or, Xor, Mul, Shr, Sar}

-- the low bits, extended by zeros or by the sign
abbrev pub fit_number : Fit → ℕ → ℕ
fit_number Zx8 n = cut_of W8 n
fit_number Zx16 n = cut_of W16 n
fit_number Zx32 n = cut_of W32 n
fit_number Sx8 n = sext_of W8 n
fit_number Sx16 n = sext_of W16 n
fit_number Sx32 n = sext_of W32 n

-- the operation on two numbers below 2^64; shifts are by the second one modulo 64
abbrev pub pair_number : Pair → ℕ → ℕ → ℕ
pair_number And x y = bit_and x y
pair_number Or x y = bit_or x y
pair_number Xor x y = bit_xor x y
pair_number Mul x y = x * y % 2 ^ 64
pair_number Shr x y = shift_of shift_right W64 x y
pair_number Sar x y = shift_of shift_right_by_sign W64 x y
