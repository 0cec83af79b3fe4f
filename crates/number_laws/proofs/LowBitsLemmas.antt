-- Low bits: the laws of `cut` and `sext` over the definitions.
use Rattle.std.proofs.Common.{◌≡◌, ℕ, ◌+◌, ◌*◌, ◌-◌, ◌%◌, ◌^◌, ◌<◌, ◌≤◌, sym, ap, ◌∙◌, arith}
use Rattle.std.proofs.lemmas.Bool.Decides.{nat_tests}
use Rattle.std.proofs.lemmas.Nat.{pow_pos, mul-mod}
use Rattle.std.proofs.Math.Nat.{mod-lt, mod-eq_of_lt, mod-mod, mod-add-mod, add-mod-mod, add-mul-mod_self_right}
use Rattle.std.proofs.Math.Pow.{mod-mod-pow}
use Rattle.bits_core.specs.declared.width.Width.{Width}
use Rattle.bits_core.specs.declared.width.Width.TheVariants.{W8, W16, W32, W64}
use Rattle.bits_core.specs.Width.{bits_of}
use Rattle.bits_core.specs.LowBits.{cut_of, extended, sext_of}

-- the low bits are below 2^width
pub cut_below : (w : Width) (x : ℕ) → cut_of w x < 2 ^ bits_of w
cut_below w x = mod-lt x (pow_pos (bits_of w))

-- numbers of one residue have the same low bits
pub cut_residue : (w : Width) (x turns : ℕ) → cut_of w (x + turns * 2 ^ bits_of w) ≡ cut_of w x
cut_residue w x turns = add-mul-mod_self_right x turns (2 ^ bits_of w)

-- a number that fits is its own low bits
pub cut_same : (w : Width) (x : ℕ) → x < 2 ^ bits_of w → cut_of w x ≡ x
cut_same w x h = mod-eq_of_lt h

-- a second cut changes nothing
pub cut_again : (w : Width) (x : ℕ) → cut_of w (cut_of w x) ≡ cut_of w x
cut_again w x = mod-mod x (2 ^ bits_of w)

low_of_low : (n j k m : ℕ) → m ≡ j + k → n % 2 ^ m % 2 ^ k ≡ n % 2 ^ k
low_of_low n j k m e = ap (λ i. n % 2 ^ i % 2 ^ k) e ∙ mod-mod-pow n j k

-- a cut before a narrower one changes nothing
pub cut_narrower : (v w : Width) (x : ℕ) → bits_of v ≤ bits_of w → cut_of v (cut_of w x) ≡ cut_of v x
cut_narrower v w x h =
    let e : bits_of w ≡ bits_of w - bits_of v + bits_of v = omega arith in
    low_of_low x (bits_of w - bits_of v) (bits_of v) (bits_of w) e

-- the low bits of a sum are those of the sum of the low bits
pub cut_sums : (w : Width) (x y : ℕ) → cut_of w (cut_of w x + cut_of w y) ≡ cut_of w (x + y)
cut_sums w x y = mod-add-mod x (2 ^ bits_of w) (cut_of w y) ∙ add-mod-mod x y (2 ^ bits_of w)

-- the low bits of a product are those of the product of the low bits
pub cut_products : (w : Width) (x y : ℕ) → cut_of w (cut_of w x * cut_of w y) ≡ cut_of w (x * y)
cut_products w x y = sym (mul-mod x y (2 ^ bits_of w))

-- a number of the width, extended by its sign, is below 2^64
pub extended_below : (w : Width) (low : ℕ) → low < 2 ^ bits_of w → extended w low < 2 ^ 64
extended_below W8 low h = grind (arith, nat_tests)
extended_below W16 low h = grind (arith, nat_tests)
extended_below W32 low h = grind (arith, nat_tests)
extended_below W64 low h = grind (arith, nat_tests)

-- a number of the width, extended by its sign, has that number as its low bits
pub extended_low : (w : Width) (low : ℕ) → low < 2 ^ bits_of w → cut_of w (extended w low) ≡ low
extended_low W8 low h = grind (arith, nat_tests)
extended_low W16 low h = grind (arith, nat_tests)
extended_low W32 low h = grind (arith, nat_tests)
extended_low W64 low h = grind (arith, nat_tests)

-- a number whose sign is clear stays
extended_same : (w : Width) (low : ℕ) → low < 2 ^ (bits_of w - 1) → extended w low ≡ low
extended_same w low h = grind (arith, nat_tests)

-- at 64 bits there is nothing to add
extended_whole : (x : ℕ) → extended W64 x ≡ x
extended_whole x = grind (arith, nat_tests)

half_below : (w : Width) (x : ℕ) → x < 2 ^ (bits_of w - 1) → x < 2 ^ bits_of w
half_below W8 x h = omega arith
half_below W16 x h = omega arith
half_below W32 x h = omega arith
half_below W64 x h = omega arith

-- the extension is below 2^64
pub sext_below : (w : Width) (x : ℕ) → sext_of w x < 2 ^ 64
sext_below w x = extended_below w (cut_of w x) (cut_below w x)

-- the extension agrees with the number modulo 2^width
pub sext_agree : (w : Width) (x : ℕ) → cut_of w (sext_of w x) ≡ cut_of w x
sext_agree w x = extended_low w (cut_of w x) (cut_below w x)

-- the extension depends on the low bits alone
pub sext_from_cut : (w : Width) (x : ℕ) → sext_of w (cut_of w x) ≡ sext_of w x
sext_from_cut w x = ap (extended w) (cut_again w x)

-- numbers with the same low bits have the same extension
pub sext_same_cut : (w : Width) (x y : ℕ) → cut_of w x ≡ cut_of w y → sext_of w x ≡ sext_of w y
sext_same_cut w x y e = ap (extended w) e

-- a second extension changes nothing
pub sext_again : (w : Width) (x : ℕ) → sext_of w (sext_of w x) ≡ sext_of w x
sext_again w x = sext_same_cut w (sext_of w x) x (sext_agree w x)

-- a number whose sign is clear is its own extension
pub sext_same : (w : Width) (x : ℕ) → x < 2 ^ (bits_of w - 1) → sext_of w x ≡ x
sext_same w x h = ap (extended w) (cut_same w x (half_below w x h)) ∙ extended_same w x h

-- a number of 64 bits is its own extension at that width
pub sext_whole : (x : ℕ) → x < 2 ^ 64 → sext_of W64 x ≡ x
sext_whole x h = extended_whole (cut_of W64 x) ∙ cut_same W64 x h
