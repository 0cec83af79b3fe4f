-- Sizes of operands and immediates, numbers extended by their sign (Intel SDM volume 2, 2.2.1, A.2.2).
use Rattle.std.specs.Prelude.{ℕ, ◌+◌, ◌-◌, ◌*◌, ◌%◌, ◌^◌, Bool, true, not, ◌||◌, ◌==◌, nat_lt, if◌then◌else◌, unwrap_or}
use Rattle.bits_core.specs.declared.width.Width.{Width}
use Rattle.bits_core.specs.declared.width.Width.TheVariants.{W8, W16, W32, W64}
use Rattle.bits_core.specs.Width.{bytes_of}
use Rattle.bits_core.specs.Shifts.{count_modulus}
use Rattle.x86_spelling.specs.declared.encoding.Size.{Size}
use Rattle.x86_spelling.specs.declared.encoding.Size.TheVariants as size
use Rattle.x86_spelling.specs.declared.encoding.ImmSize.{ImmSize}
use Rattle.x86_spelling.specs.declared.encoding.ImmSize.TheVariants as imm
use Rattle.x86_spelling.specs.declared.encoding.Row.{Row}

-- the operand size, by REX.W and whether the prefix 66 stands there
abbrev pub width_of : Size → ℕ → Bool → Width
width_of size.Byte w small = W8
width_of size.Quad w small = W64
width_of size.Y w small = if w == 1 then W64 else W32
width_of size.V w small = if w == 1 then W64 else if small then W16 else W32

-- the width of the source r/m, which is the operand size where the row names no other
abbrev pub source_width : Row → Width → Width
source_width r w = unwrap_or r.source w

-- how many bytes the immediate has at an operand size
abbrev pub imm_len : ImmSize → Width → ℕ
imm_len imm.Absent w = 0
imm_len imm.Byte w = 1
imm_len imm.Count w = 1
imm_len imm.Double w = 4
imm_len imm.Z W16 = 2
imm_len imm.Z W8 = 4
imm_len imm.Z W32 = 4
imm_len imm.Z W64 = 4
imm_len imm.V w = bytes_of w

-- an immediate count of bits isn't 0 after masking (SDM volume 2, SAL/SAR/SHL/SHR); every other immediate will do
abbrev pub fits_imm : ImmSize → Width → ℕ → Bool
fits_imm imm.Absent w n = true
fits_imm imm.Byte w n = true
fits_imm imm.Count w n = not (n % count_modulus w == 0)
fits_imm imm.Double w n = true
fits_imm imm.Z w n = true
fits_imm imm.V w n = true

-- the numbers of bytes that a displacement or an immediate may have
abbrev pub is_length : ℕ → Bool
is_length n = (n == 0) || ((n == 1) || ((n == 2) || ((n == 4) || (n == 8))))

-- a number of len bytes, extended by its sign to 64 bits
abbrev pub sign_extend : ℕ → ℕ → ℕ
sign_extend len n = if nat_lt (2 * n) (256 ^ len) then n else n + 2 ^ 64 - 256 ^ len
