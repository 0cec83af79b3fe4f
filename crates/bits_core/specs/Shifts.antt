-- What rol, ror, shl, shr and sar make of a number (Intel SDM volume 2, RCL/RCR/ROL/ROR and
-- SAL/SAR/SHL/SHR).
use Rattle.std.specs.Prelude.{ℕ, ◌+◌, ◌-◌, ◌*◌, ◌/◌, ◌%◌, ◌^◌, true}
use Rattle.std.specs.Int.{int_shr}
use Rattle.bits_core.specs.declared.width.Width.{Width}
use Rattle.bits_core.specs.declared.width.Width.TheVariants.{W8, W16, W32, W64}
use Rattle.bits_core.specs.declared.operations.Shift.{Shift}
use Rattle.bits_core.specs.declared.operations.Shift.TheVariants.{Rol, Ror, Shl, Shr, Sar}
use Rattle.bits_core.specs.Width.{bits_of}
use Rattle.bits_core.specs.LowBits.{cut_of}
use Rattle.bits_core.specs.Integers.{integer_of, residue_of}

-- a count is taken modulo this: its low 6 bits at 64 bits, else its low 5
abbrev pub count_modulus : Width → ℕ
count_modulus W8 = 32
count_modulus W16 = 32
count_modulus W32 = 32
count_modulus W64 = 64

-- a number of the width turned left: what a shift pushes out at the top comes in at the bottom
abbrev pub turned_left : Width → ℕ → ℕ → ℕ
turned_left w x by = x * 2 ^ by % 2 ^ bits_of w + x * 2 ^ by / 2 ^ bits_of w

-- a number of the width turned right: what a shift pushes out at the bottom comes in at the top
abbrev pub turned_right : Width → ℕ → ℕ → ℕ
turned_right w x by = x / 2 ^ by + x % 2 ^ by * 2 ^ (bits_of w - by)

-- a number of the width after a shift or rotation by a masked count; sar rounds down
abbrev pub shifted_by : Shift → Width → ℕ → ℕ → ℕ
shifted_by Rol w a by = turned_left w (cut_of w a) (by % bits_of w)
shifted_by Ror w a by = turned_right w (cut_of w a) (by % bits_of w)
shifted_by Shl w a by = cut_of w (a * 2 ^ by)
shifted_by Shr w a by = cut_of w a / 2 ^ by
shifted_by Sar w a by = residue_of w (int_shr (integer_of w true a) by)

-- the same by the count as the instruction has it
abbrev pub shift_of : Shift → Width → ℕ → ℕ → ℕ
shift_of op w a count = shifted_by op w a (count % count_modulus w)
