-- Rotations: the two halves of a shifted number do not overlap, and turning right is turning left by the rest.
use Rattle.std.proofs.Common.{◌≡◌, ℕ, ◌+◌, ◌*◌, ◌-◌, ◌/◌, ◌%◌, ◌^◌, ◌<◌, ◌≤◌, bit_or, subst, sym, ap, ◌∙◌, arith}
use Rattle.std.proofs.lemmas.Nat.{pow_pos, pow-add, or_shifted, shr_below, shl_below, shl_whole, div-add-mod', mod-mul-add}
use Rattle.std.proofs.Math.Nat.{mod-lt, mod-eq_of_lt, mul-div-mul_right, mul-lt-mul_of_pos_right}
use Rattle.std.proofs.Math.Pow.{pow_mono}
use Rattle.bits_core.specs.declared.width.Width.TheVariants.{W8, W16, W32, W64}
use Rattle.bits_core.specs.declared.width.Width.{Width}
use Rattle.bits_core.specs.Width.{bits_of}
use Rattle.bits_core.specs.Shifts.{turned_left, turned_right}

scaled_low : (x n m : ℕ) → 0 < n → 0 < m → x * m % (n * m) ≡ x % n * m
scaled_low x n m h i =
    let below : x % n < n = mod-lt x h in
    let small : x % n * m < n * m = mul-lt-mul_of_pos_right below i in
    let whole : x * m ≡ x / n * (n * m) + x % n * m = sym (ap (λ y. y * m) (div-add-mod' x n)) ∙ (let e : (x / n * n + x % n) * m ≡ x / n * (n * m) + x % n * m = omega arith in e) in
    ap (λ y. y % (n * m)) whole ∙ mod-mul-add (x / n) (n * m) (x % n * m) small

-- a shifted number's low half: its low bits, shifted
low_half : (j k x : ℕ) → x * 2 ^ k % 2 ^ (j + k) ≡ x % 2 ^ j * 2 ^ k
low_half j k x = ap (λ n. x * 2 ^ k % n) (pow-add 2 j k) ∙ scaled_low x (2 ^ j) (2 ^ k) (pow_pos j) (pow_pos k)

-- its high half: its high bits
high_half : (j k x : ℕ) → x * 2 ^ k / 2 ^ (j + k) ≡ x / 2 ^ j
high_half j k x = ap (λ n. x * 2 ^ k / n) (pow-add 2 j k) ∙ mul-div-mul_right x (2 ^ j) (pow_pos k)

halves_apart : (j k x m : ℕ) → m ≡ j + k → x < 2 ^ m → bit_or (x * 2 ^ k % 2 ^ m) (x * 2 ^ k / 2 ^ m) ≡ x * 2 ^ k % 2 ^ m + x * 2 ^ k / 2 ^ m
halves_apart j k x m e h =
    let low : x * 2 ^ k % 2 ^ m ≡ x % 2 ^ j * 2 ^ k = ap (λ i. x * 2 ^ k % 2 ^ i) e ∙ low_half j k x in
    let high : x * 2 ^ k / 2 ^ m ≡ x / 2 ^ j = ap (λ i. x * 2 ^ k / 2 ^ i) e ∙ high_half j k x in
    let here : x < 2 ^ (k + j) = subst (λ i. x < 2 ^ i) (let f : m ≡ k + j = omega arith in f) h in
    let below : x / 2 ^ j < 2 ^ k = shr_below x k j here in
    let both : bit_or (x % 2 ^ j * 2 ^ k) (x / 2 ^ j) ≡ x % 2 ^ j * 2 ^ k + x / 2 ^ j = or_shifted (x % 2 ^ j) k (x / 2 ^ j) below in
    cc

-- the or of the halves of a shifted number is the number turned left
pub turned_from_halves : (w : Width) (x by : ℕ) → x < 2 ^ bits_of w → by ≤ bits_of w → bit_or (x * 2 ^ by % 2 ^ bits_of w) (x * 2 ^ by / 2 ^ bits_of w) ≡ turned_left w x by
turned_from_halves w x by h i = let e : bits_of w ≡ bits_of w - by + by = omega arith in halves_apart (bits_of w - by) by x (bits_of w) e h

-- the high half of a number shifted by at most the width fits the width
pub high_half_below : (w : Width) (x by : ℕ) → x < 2 ^ bits_of w → by ≤ bits_of w → x * 2 ^ by / 2 ^ bits_of w < 2 ^ bits_of w
high_half_below w x by h i =
    let shifted : x * 2 ^ by < 2 ^ (bits_of w + by) = shl_below x (bits_of w) by h in
    let here : x * 2 ^ by < 2 ^ (by + bits_of w) = subst (λ i. x * 2 ^ by < 2 ^ i) (let f : bits_of w + by ≡ by + bits_of w = omega arith in f) shifted in
    let below : x * 2 ^ by / 2 ^ bits_of w < 2 ^ by = shr_below (x * 2 ^ by) by (bits_of w) here in
    let most : 2 ^ by ≤ 2 ^ bits_of w = pow_mono {i = by} {j = bits_of w} i in
    omega arith

-- 128 bits hold a number of a width that is shifted by at most the width
pub shifted_whole : (w : Width) (x by : ℕ) → x < 2 ^ bits_of w → by ≤ bits_of w → x * 2 ^ by % 2 ^ 128 ≡ x * 2 ^ by
shifted_whole W8 x by h i = shl_whole x 8 by 128 h (omega arith)
shifted_whole W16 x by h i = shl_whole x 16 by 128 h (omega arith)
shifted_whole W32 x by h i = shl_whole x 32 by 128 h (omega arith)
shifted_whole W64 x by h i = shl_whole x 64 by 128 h (omega arith)

left_is_right : (j k x m : ℕ) → m ≡ j + k → x * 2 ^ k % 2 ^ m + x * 2 ^ k / 2 ^ m ≡ x / 2 ^ j + x % 2 ^ j * 2 ^ k
left_is_right j k x m e =
    let low : x * 2 ^ k % 2 ^ m ≡ x % 2 ^ j * 2 ^ k = ap (λ i. x * 2 ^ k % 2 ^ i) e ∙ low_half j k x in
    let high : x * 2 ^ k / 2 ^ m ≡ x / 2 ^ j = ap (λ i. x * 2 ^ k / 2 ^ i) e ∙ high_half j k x in
    omega arith

-- to turn right is to turn left by the rest of the width
pub turned_by_rest : (w : Width) (x by : ℕ) → by ≤ bits_of w → turned_left w x (bits_of w - by) ≡ turned_right w x by
turned_by_rest w x by h = left_is_right by (bits_of w - by) x (bits_of w) (omega arith)

-- the or of the halves that 128 bits give is the number turned left
pub turned_in_128 : (w : Width) (x by n : ℕ) (halves : ℕ × ℕ) → x < 2 ^ bits_of w → by ≤ bits_of w → n ≡ x → halves ≡ (n * 2 ^ by % 2 ^ 128 % 2 ^ bits_of w, n * 2 ^ by % 2 ^ 128 / 2 ^ bits_of w % 2 ^ bits_of w) → bit_or halves.0 halves.1 ≡ turned_left w x by
turned_in_128 w x by n halves h i e f =
    let whole : n * 2 ^ by % 2 ^ 128 ≡ x * 2 ^ by = ap (λ y. y * 2 ^ by % 2 ^ 128) e ∙ shifted_whole w x by h i in
    let high : x * 2 ^ by / 2 ^ bits_of w % 2 ^ bits_of w ≡ x * 2 ^ by / 2 ^ bits_of w = mod-eq_of_lt (high_half_below w x by h i) in
    ap (λ (p : ℕ × ℕ). bit_or p.0 p.1) f
    ∙ ap (λ y. bit_or (y % 2 ^ bits_of w) (y / 2 ^ bits_of w % 2 ^ bits_of w)) whole
    ∙ ap (bit_or (x * 2 ^ by % 2 ^ bits_of w)) high
    ∙ turned_from_halves w x by h i
