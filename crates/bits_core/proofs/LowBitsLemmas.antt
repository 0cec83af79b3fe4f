-- How large the low bits of a number are.
use Rattle.std.proofs.Common.{ℕ, ◌^◌, ◌<◌, arith}
use Rattle.std.proofs.lemmas.Nat.{pow_pos}
use Rattle.std.proofs.Math.Nat.{mod-lt}
use Rattle.bits_core.specs.declared.width.Width.{Width}
use Rattle.bits_core.specs.declared.width.Width.TheVariants.{W8, W16, W32, W64}
use Rattle.bits_core.specs.Width.{bits_of}
use Rattle.bits_core.specs.LowBits.{cut_of}

-- the low bits are below 2^width
pub cut_below : (w : Width) (x : ℕ) → cut_of w x < 2 ^ bits_of w
cut_below w x = mod-lt x (pow_pos (bits_of w))

-- at a width of at most 64 bits 2^width is at most 2^64
pub cut_below_64 : (w : Width) (x : ℕ) → cut_of w x < 2 ^ 64
cut_below_64 W8 x = omega arith
cut_below_64 W16 x = omega arith
cut_below_64 W32 x = omega arith
cut_below_64 W64 x = omega arith
