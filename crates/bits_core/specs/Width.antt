-- What the width of an operand is (Intel SDM volume 1, 4.1, fundamental data types).
use Rattle.std.specs.Prelude.{ℕ}
use Rattle.bits_core.specs.declared.width.Width.{Width}
use Rattle.bits_core.specs.declared.width.Width.TheVariants.{W8, W16, W32, W64}

-- the width in bits
abbrev pub bits_of : Width → ℕ
bits_of W8 = 8
bits_of W16 = 16
bits_of W32 = 32
bits_of W64 = 64

-- the width in bytes
abbrev pub bytes_of : Width → ℕ
bytes_of W8 = 1
bytes_of W16 = 2
bytes_of W32 = 4
bytes_of W64 = 8
