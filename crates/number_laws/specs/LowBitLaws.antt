-- Laws of the low bits of a number, alone and extended by their sign.
use Rattle.std.specs.Prelude.{◌≡◌, ℕ, ◌+◌, ◌-◌, ◌*◌, ◌^◌, ◌<◌, ◌≤◌}
use Rattle.bits_core.specs.declared.width.Width.{Width}
use Rattle.bits_core.specs.declared.width.Width.TheVariants.{W64}
use Rattle.bits_core.specs.Width.{bits_of}
use Rattle.bits_core.specs.LowBits.{cut_of, sext_of}

-- the laws of the low bits
pub record CutLaws : Type 0 where
  -- they are the remainder modulo 2^width: below it, and the same for all numbers of one residue
  pub below : (w : Width) (x : ℕ) → cut_of w x < 2 ^ bits_of w
  pub residue : (w : Width) (x turns : ℕ) → cut_of w (x + turns * 2 ^ bits_of w) ≡ cut_of w x
  -- a number that fits stays, and a second cut changes nothing, nor does one before a narrower one
  pub same : (w : Width) (x : ℕ) → x < 2 ^ bits_of w → cut_of w x ≡ x
  pub again : (w : Width) (x : ℕ) → cut_of w (cut_of w x) ≡ cut_of w x
  pub narrower : (v w : Width) (x : ℕ) → bits_of v ≤ bits_of w →
      cut_of v (cut_of w x) ≡ cut_of v x
  -- the low bits of a sum or a product are those of the operands' low bits
  pub sums : (w : Width) (x y : ℕ) → cut_of w (cut_of w x + cut_of w y) ≡ cut_of w (x + y)
  pub products : (w : Width) (x y : ℕ) → cut_of w (cut_of w x * cut_of w y) ≡ cut_of w (x * y)

-- the laws of the extension by the sign
pub record SextLaws : Type 0 where
  pub below : (w : Width) (x : ℕ) → sext_of w x < 2 ^ 64
  -- it agrees with the number modulo 2^width, and depends on the low bits alone
  pub agree : (w : Width) (x : ℕ) → cut_of w (sext_of w x) ≡ cut_of w x
  pub from_cut : (w : Width) (x : ℕ) → sext_of w (cut_of w x) ≡ sext_of w x
  pub again : (w : Width) (x : ℕ) → sext_of w (sext_of w x) ≡ sext_of w x
  -- a number whose sign is clear stays, and so does every number of 64 bits at that width
  pub same : (w : Width) (x : ℕ) → x < 2 ^ (bits_of w - 1) → sext_of w x ≡ x
  pub whole : (x : ℕ) → x < 2 ^ 64 → sext_of W64 x ≡ x
