-- Products and quotients of signed numbers in 128 bits.
use Rattle.std.proofs.Common.{◌≡◌, ℕ, suc, ◌-◌, ◌/◌, ◌%◌, ◌^◌, ◌<◌, ◌≤◌, true, false, Bool, ℤ, pos, negsuc, neg_ℤ, ◌+ℤ◌, ◌*ℤ◌, ◌≤ℤ◌, ◌<ℤ◌, of_z, FitsSigned, refl, sym, ap, subst, ◌∙◌, arith}
use Rattle.std.specs.Prelude.{unsigned_abs, int_div, int_rem, Some, None, if◌then◌else◌}
use Rattle.std.specs.Int.{w128, int_wrapping_div}
use Rattle.std.proofs.lemmas.Bool.Decides.{nat_tests}
use Rattle.std.proofs.lemmas.Int.{ints, fits_signed_mul, fits_signed_from_abs, to_z-of_z, rem_is}
use Rattle.std.proofs.Math.Facts.{sfits_to_z}
use Rattle.std.proofs.Math.Nat.{div-le_self, le_trans}
use Rattle.bits_core.specs.declared.width.Width.{Width}
use Rattle.bits_core.specs.declared.width.Width.TheVariants.{W8, W16, W32, W64}
use Rattle.bits_core.specs.Width.{bits_of}
use Rattle.bits_core.specs.LowBits.{cut_of}
use Rattle.bits_core.specs.Integers.{integer_of, is_in_range, residue_of}
use Rattle.bits_core.specs.Wide.{halves_of, joined_of, fitting}
use Rattle.bits_core.proofs.LowBitsLemmas.{cut_below, cut_below_64}
use Rattle.bits_core.proofs.IntegerLemmas.{back}

-- a signed number of a width is at most 2^63 from 0
pub signed_small : (w : Width) (x : ℕ) → unsigned_abs (integer_of w true x) ≤ 2 ^ 63
signed_small W8 x = grind (arith, ints, nat_tests)
signed_small W16 x = grind (arith, ints, nat_tests)
signed_small W32 x = grind (arith, ints, nat_tests)
signed_small W64 x = grind (arith, ints, nat_tests)

-- 128 bits hold the product of two signed numbers
pub product_fits : (w : Width) (x y : ℕ) → FitsSigned w128 (integer_of w true x *ℤ integer_of w true y)
product_fits w x y = fits_signed_mul w128 (integer_of w true x) (integer_of w true y) (2 ^ 63) (2 ^ 63) (signed_small w x) (signed_small w y) (omega arith)

low_of_negative : (w : Width) (n : ℕ) → n < 2 ^ 128 → (2 ^ 128 - suc n) % 2 ^ bits_of w ≡ 2 ^ bits_of w - 1 - n % 2 ^ bits_of w
low_of_negative W8 n h = omega arith
low_of_negative W16 n h = omega arith
low_of_negative W32 n h = omega arith
low_of_negative W64 n h = omega arith

high_of_negative : (w : Width) (n : ℕ) → n < 2 ^ 128 → (2 ^ 128 - suc n) / 2 ^ bits_of w % 2 ^ bits_of w ≡ 2 ^ bits_of w - 1 - n / 2 ^ bits_of w % 2 ^ bits_of w
high_of_negative W8 n h = omega arith
high_of_negative W16 n h = omega arith
high_of_negative W32 n h = omega arith
high_of_negative W64 n h = omega arith

-- what the code's halves of a product are: those of the integer
pub halves_back : (w : Width) (n : ℤ) → FitsSigned w128 n → (of_z w128 n % 2 ^ bits_of w, of_z w128 n / 2 ^ bits_of w % 2 ^ bits_of w) ≡ halves_of w n
halves_back w (pos n) h = refl
halves_back w (negsuc n) h =
    let below : n < 2 ^ 128 = omega (arith, h.sfits) in
    let low : (2 ^ 128 - suc n) % 2 ^ bits_of w ≡ 2 ^ bits_of w - 1 - n % 2 ^ bits_of w = low_of_negative w n below in
    let high : (2 ^ 128 - suc n) / 2 ^ bits_of w % 2 ^ bits_of w ≡ 2 ^ bits_of w - 1 - n / 2 ^ bits_of w % 2 ^ bits_of w = high_of_negative w n below in
    cc

-- a signed number of a width is kept by 128 bits
pub signed_back : (w : Width) (x : ℕ) (n : ℤ) → n ≡ integer_of w true x → back n ≡ integer_of w true x
signed_back w x n e =
    let small : unsigned_abs (integer_of w true x) ≤ 2 ^ 63 = signed_small w x in
    ap back e ∙ to_z-of_z w128 (integer_of w true x) (fits_signed_from_abs w128 (integer_of w true x) (omega arith))

pub product_back : (w : Width) (x y : ℕ) (m n : ℤ) → m ≡ integer_of w true x → n ≡ integer_of w true y → back m *ℤ back n ≡ integer_of w true x *ℤ integer_of w true y
product_back w x y m n e f = ap (λ i. i *ℤ back n) (signed_back w x m e) ∙ ap (λ i. integer_of w true x *ℤ i) (signed_back w y n f)

-- a quotient is no further from 0 than the dividend
pub quotient_small : (a d : ℤ) → unsigned_abs (int_div a d) ≤ unsigned_abs a
quotient_small (pos a) (pos d) = div-le_self a d
quotient_small (pos a) (negsuc d) = let e = div-le_self a (suc d) in grind (arith, ints)
quotient_small (negsuc a) (pos d) = let e = div-le_self (suc a) d in grind (arith, ints)
quotient_small (negsuc a) (negsuc d) = div-le_self (suc a) (suc d)

-- 128 bits keep whether a width holds an integer, also at 2^127, which becomes -2^127
pub range_back : (w : Width) (n : ℤ) → unsigned_abs n ≤ 2 ^ 127 → is_in_range w true (back n) ≡ is_in_range w true n
range_back W8 n h = grind (arith, ints, nat_tests)
range_back W16 n h = grind (arith, ints, nat_tests)
range_back W32 n h = grind (arith, ints, nat_tests)
range_back W64 n h = grind (arith, ints, nat_tests)

-- 128 bits keep an integer that a width holds
pub held_back : (w : Width) (n : ℤ) → is_in_range w true n ≡ true → back n ≡ n
held_back W8 n h = grind (arith, ints, nat_tests)
held_back W16 n h = grind (arith, ints, nat_tests)
held_back W32 n h = grind (arith, ints, nat_tests)
held_back W64 n h = grind (arith, ints, nat_tests)

signed_range : (w : Width) (x : ℕ) → (neg_ℤ (pos (2 ^ (bits_of w - 1))) ≤ℤ integer_of w true x) × (integer_of w true x <ℤ pos (2 ^ (bits_of w - 1)))
signed_range W8 x = (grind (arith, ints, nat_tests), grind (arith, ints, nat_tests))
signed_range W16 x = (grind (arith, ints, nat_tests), grind (arith, ints, nat_tests))
signed_range W32 x = (grind (arith, ints, nat_tests), grind (arith, ints, nat_tests))
signed_range W64 x = (grind (arith, ints, nat_tests), grind (arith, ints, nat_tests))

unsigned_is : (w : Width) (x : ℕ) → integer_of w false x ≡ pos (cut_of w x)
unsigned_is w x = let h : cut_of w x < 2 ^ bits_of w = cut_below w x in grind (arith, nat_tests)

power_range : (w : Width) → (1 ≤ 2 ^ bits_of w) × (2 ^ bits_of w ≤ 2 ^ 64)
power_range W8 = (omega arith, omega arith)
power_range W16 = (omega arith, omega arith)
power_range W32 = (omega arith, omega arith)
power_range W64 = (omega arith, omega arith)

scaled_fits : (w : Width) (x : ℤ) → neg_ℤ (pos (2 ^ (bits_of w - 1))) ≤ℤ x → x <ℤ pos (2 ^ (bits_of w - 1)) → FitsSigned w128 (x *ℤ pos (2 ^ bits_of w))
scaled_fits W8 (pos n) h i = omega (arith, ints)
scaled_fits W16 (pos n) h i = omega (arith, ints)
scaled_fits W32 (pos n) h i = omega (arith, ints)
scaled_fits W64 (pos n) h i = omega (arith, ints)
scaled_fits W8 (negsuc n) h i = omega (arith, ints)
scaled_fits W16 (negsuc n) h i = omega (arith, ints)
scaled_fits W32 (negsuc n) h i = omega (arith, ints)
scaled_fits W64 (negsuc n) h i = omega (arith, ints)

joined_fits : (w : Width) (x : ℤ) (low : ℕ) → neg_ℤ (pos (2 ^ (bits_of w - 1))) ≤ℤ x → x <ℤ pos (2 ^ (bits_of w - 1)) → low < 2 ^ bits_of w → FitsSigned w128 (x *ℤ pos (2 ^ bits_of w) +ℤ pos low)
joined_fits W8 (pos n) low h i j = omega (arith, ints)
joined_fits W16 (pos n) low h i j = omega (arith, ints)
joined_fits W32 (pos n) low h i j = omega (arith, ints)
joined_fits W64 (pos n) low h i j = omega (arith, ints)
joined_fits W8 (negsuc n) low h i j = omega (arith, ints)
joined_fits W16 (negsuc n) low h i j = omega (arith, ints)
joined_fits W32 (negsuc n) low h i j = omega (arith, ints)
joined_fits W64 (negsuc n) low h i j = omega (arith, ints)

-- 128 bits hold a signed number of twice the width
pub joined_of_fits : (w : Width) (high low : ℕ) → FitsSigned w128 (joined_of w true high low)
joined_of_fits w high low =
    let range = signed_range w high in
    subst (λ (n : ℤ). FitsSigned w128 (integer_of w true high *ℤ pos (2 ^ bits_of w) +ℤ n)) (sym (unsigned_is w low)) (joined_fits w (integer_of w true high) (cut_of w low) range.0 range.1 (cut_below w low))

-- a sum of 128 bits that makes a signed number from its halves loses nothing
pub joined_back : (w : Width) (high low m : ℕ) (x y n : ℤ) → x ≡ integer_of w true high → y ≡ integer_of w false low → n ≡ pos m → m ≡ 2 ^ bits_of w - 1 → back (back (back x *ℤ back (back n +ℤ pos 1)) +ℤ back y) ≡ joined_of w true high low
joined_back w high low m x y n e f g h =
    let range = signed_range w high in
    let powers = power_range w in
    let below : cut_of w low < 2 ^ 64 = cut_below_64 w low in
    let scale : back (back n +ℤ pos 1) ≡ pos (2 ^ bits_of w) = ap (λ i. back (back i +ℤ pos 1)) g ∙ (let k : back (back (pos m) +ℤ pos 1) ≡ pos (2 ^ bits_of w) = omega (arith, ints, powers.0, powers.1) in k) in
    let small : back (pos (cut_of w low)) ≡ pos (cut_of w low) = omega (arith, ints) in
    let low_is : back y ≡ integer_of w false low = ap back (f ∙ unsigned_is w low) ∙ small ∙ sym (unsigned_is w low) in
    let product : back (back x *ℤ back (back n +ℤ pos 1)) ≡ integer_of w true high *ℤ pos (2 ^ bits_of w) =
    ap (λ i. back (i *ℤ back (back n +ℤ pos 1))) (signed_back w high x e)
    ∙ ap (λ i. back (integer_of w true high *ℤ i)) scale
    ∙ to_z-of_z w128 (integer_of w true high *ℤ pos (2 ^ bits_of w)) (scaled_fits w (integer_of w true high) range.0 range.1) in
    ap (λ i. back (i +ℤ back y)) product
    ∙ ap (λ i. back (integer_of w true high *ℤ pos (2 ^ bits_of w) +ℤ i)) low_is
    ∙ to_z-of_z w128 (joined_of w true high low) (joined_of_fits w high low)

back_fits : (n : ℤ) → unsigned_abs n ≤ 2 ^ 127 → FitsSigned w128 (back n)
back_fits (pos n) h = sfits_to_z {w = w128} {n = n} (record { fits = omega arith })
back_fits (negsuc n) h = sfits_to_z {w = w128} {n = 2 ^ 128 - suc n} (record { fits = omega arith })

back_twice : (n : ℤ) → unsigned_abs n ≤ 2 ^ 127 → back (back n) ≡ back n
back_twice n h = to_z-of_z w128 (back n) (back_fits n h)

abs_of_fits : (n : ℤ) → FitsSigned w128 n → unsigned_abs n ≤ 2 ^ 127
abs_of_fits n h = omega (arith, ints)

-- the quotient that 128 bits give
quotient_back : (a d x y q : ℤ) → FitsSigned w128 a → FitsSigned w128 d → x ≡ a → y ≡ d → q ≡ int_wrapping_div w128 (back x) (back y) → back q ≡ back (int_div a d)
quotient_back a d x y q h i e f g =
    let small : unsigned_abs (int_div a d) ≤ 2 ^ 127 = le_trans (quotient_small a d) (abs_of_fits a h) in
    ap back g
    ∙ ap (λ n. back (back (int_div (back n) (back y)))) e
    ∙ ap (λ n. back (back (int_div (back a) (back n)))) f
    ∙ ap (λ n. back (back (int_div n (back d)))) (to_z-of_z w128 a h)
    ∙ ap (λ n. back (back (int_div a n))) (to_z-of_z w128 d i)
    ∙ back_twice (int_div a d) small

-- whether the width holds the quotient is told by what 128 bits give
pub quotient_range : (w : Width) (a d x y q : ℤ) → FitsSigned w128 a → FitsSigned w128 d → x ≡ a → y ≡ d → q ≡ int_wrapping_div w128 (back x) (back y) → is_in_range w true (back q) ≡ is_in_range w true (int_div a d)
quotient_range w a d x y q h i e f g =
    let small : unsigned_abs (int_div a d) ≤ 2 ^ 127 = le_trans (quotient_small a d) (abs_of_fits a h) in
    ap (is_in_range w true) (quotient_back a d x y q h i e f g) ∙ range_back w (int_div a d) small

-- where the width holds the quotient, 128 bits give it
pub quotient_held : (w : Width) (a d x y q : ℤ) → FitsSigned w128 a → FitsSigned w128 d → x ≡ a → y ≡ d → q ≡ int_wrapping_div w128 (back x) (back y) → is_in_range w true (int_div a d) ≡ true → back q ≡ int_div a d
quotient_held w a d x y q h i e f g k = quotient_back a d x y q h i e f g ∙ held_back w (int_div a d) k

-- 128 bits give the remainder
pub remainder_back : (a d x y r : ℤ) → FitsSigned w128 a → FitsSigned w128 d → x ≡ a → y ≡ d → r ≡ int_rem (back x) (back y) → back r ≡ int_rem a d
remainder_back a d x y r h i e f g =
    ap back g
    ∙ ap (λ n. back (int_rem (back n) (back y))) e
    ∙ ap (λ n. back (int_rem (back a) (back n))) f
    ∙ rem_is w128 a d h i

pub signed_fits : (w : Width) (x : ℕ) → FitsSigned w128 (integer_of w true x)
signed_fits w x = let small : unsigned_abs (integer_of w true x) ≤ 2 ^ 63 = signed_small w x in fits_signed_from_abs w128 (integer_of w true x) (omega arith)

-- what is answered, by whether the width holds the quotient
pub fitting_none : (w : Width) (signed : Bool) (a d : ℤ) → is_in_range w signed (int_div a d) ≡ false → None ≡ fitting w signed a d
fitting_none w signed a d h = sym (ap (λ b. if b then Some (residue_of w (int_div a d), residue_of w (int_rem a d)) else None) h)

pub fitting_some : (w : Width) (signed : Bool) (a d : ℤ) → is_in_range w signed (int_div a d) ≡ true → Some (residue_of w (int_div a d), residue_of w (int_rem a d)) ≡ fitting w signed a d
fitting_some w signed a d h = sym (ap (λ b. if b then Some (residue_of w (int_div a d), residue_of w (int_rem a d)) else None) h)
