-- Sums, differences, shifts and products as arithmetic modulo 2^width, and the integers that numbers stand for.
use Rattle.std.proofs.Common.{◌≡◌, ℕ, zero, suc, ◌+◌, ◌*◌, ◌-◌, ◌/◌, ◌%◌, ◌^◌, ◌<◌, ◌≤◌, true, false, Bool, not, nat_lt, nat_le, if◌then◌else◌, ℤ, pos, negsuc, neg_ℤ, ◌+ℤ◌, ◌-ℤ◌, ◌*ℤ◌, sym, ap, ◌∙◌, inl, inr, arith}
use Rattle.std.specs.Prelude.{◌&&◌, int_lt, int_le}
use Rattle.std.specs.Int.{from_bool, int_shr}
use Rattle.std.proofs.lemmas.Bool.{cases_lt}
use Rattle.std.proofs.lemmas.Bool.Decides.{nat_tests}
use Rattle.std.proofs.lemmas.Int.{ints}
use Rattle.std.proofs.lemmas.Nat.{pow_pos, pow-add, mul-mod_first, mul-mod_second, mul-lt, div_below, div-add-mod'}
use Rattle.std.proofs.Math.Nat.{mod-lt, mod-eq_of_lt, mod-add-mod, add-mod-mod, add-mod_right, mul-mod_left, div-eq_of_lt, zero-mod as zero_mod}
use Rattle.std.proofs.Math.Pow.{pow_mono}
use Rattle.bits_core.specs.declared.width.Width.{Width}
use Rattle.bits_core.specs.declared.width.Width.TheVariants.{W8, W16, W32, W64}
use Rattle.bits_core.specs.declared.operations.Shift.TheVariants.{Shl, Shr, Sar}
use Rattle.bits_core.specs.Width.{bits_of}
use Rattle.bits_core.specs.LowBits.{cut_of, sext_of}
use Rattle.bits_core.specs.Integers.{end_of, integer_of, residue_of}
use Rattle.bits_core.specs.Arithmetic.{sum_of, difference_of}
use Rattle.bits_core.specs.Shifts.{count_modulus, shifted_by, shift_of}
use Rattle.bits_core.specs.Wide.{product_of}
use Rattle.number_laws.specs.Laws.{IntegerLaws, SumLaws, ShiftLaws, ProductLaws}
use Rattle.number_laws.proofs.LowBitsLemmas.{cut_below, cut_narrower, cut_products, cut_same, cut_sums, sext_below}
use Rattle.number_laws.proofs.ComparisonLemmas.{twice_half, unsigned_integer}
use Rattle.bits_core.proofs.ShiftLemmas.{turned_by_rest}

-- ---- sums and differences

-- the low bits of a sum
sum_value : (w : Width) (x y : ℕ) (carry : Bool) → (sum_of w x y carry).0 ≡ cut_of w (x + y + from_bool carry)
sum_value w x y carry =
    ap (λ n. residue_of w (n +ℤ integer_of w false y +ℤ pos (from_bool carry))) (unsigned_integer w x)
    ∙ ap (λ n. residue_of w (pos (cut_of w x) +ℤ n +ℤ pos (from_bool carry))) (unsigned_integer w y)
    ∙ sym (mod-add-mod (cut_of w x + cut_of w y) (2 ^ bits_of w) (from_bool carry))
    ∙ ap (λ n. (n + from_bool carry) % 2 ^ bits_of w) (cut_sums w x y)
    ∙ mod-add-mod (x + y) (2 ^ bits_of w) (from_bool carry)

not_held : (m s : ℕ) → not (int_le (pos 0) (pos s) && int_lt (pos s) (pos m)) ≡ nat_le m s
not_held m s = grind (arith, ints, nat_tests)

sum_carry : (w : Width) (x y : ℕ) (carry : Bool) → (sum_of w x y carry).1.carry ≡ nat_le (2 ^ bits_of w) (cut_of w x + cut_of w y + from_bool carry)
sum_carry w x y carry =
    let test : ℤ → Bool = λ n. not (int_le (pos 0) n && int_lt n (pos (2 ^ bits_of w))) in
    ap (λ n. test (n +ℤ integer_of w false y +ℤ pos (from_bool carry))) (unsigned_integer w x)
    ∙ ap (λ n. test (pos (cut_of w x) +ℤ n +ℤ pos (from_bool carry))) (unsigned_integer w y)
    ∙ not_held (2 ^ bits_of w) (cut_of w x + cut_of w y + from_bool carry)

one_at_most : (b : Bool) → from_bool b ≤ 1
one_at_most true = omega arith
one_at_most false = omega arith

exact_above : (w : Width) (p q c : ℕ) → p < 2 ^ bits_of w → q + c ≤ p → residue_of w (pos p -ℤ pos q -ℤ pos c) + q + c ≡ p
exact_above w p q c h i =
    let e : pos p -ℤ pos q -ℤ pos c ≡ pos (p - (q + c)) = omega (arith, ints) in
    let f : (p - (q + c)) % 2 ^ bits_of w ≡ p - (q + c) = mod-eq_of_lt (omega arith) in
    ap (λ n. residue_of w n + q + c) e ∙ ap (λ n. n + q + c) f ∙ (let g : p - (q + c) + q + c ≡ p = omega arith in g)

exact_below : (w : Width) (p q c : ℕ) → q < 2 ^ bits_of w → c ≤ 1 → p < q + c → residue_of w (pos p -ℤ pos q -ℤ pos c) + q + c ≡ p + 2 ^ bits_of w
exact_below w p q c h i j =
    let e : pos p -ℤ pos q -ℤ pos c ≡ negsuc (q + c - p - 1) = omega (arith, ints) in
    let f : (q + c - p - 1) % 2 ^ bits_of w ≡ q + c - p - 1 = mod-eq_of_lt (omega arith) in
    ap (λ n. residue_of w n + q + c) e ∙ ap (λ n. 2 ^ bits_of w - 1 - n + q + c) f ∙ (let g : 2 ^ bits_of w - 1 - (q + c - p - 1) + q + c ≡ p + 2 ^ bits_of w = omega arith in g)

exact_difference : (w : Width) (p q c : ℕ) → p < 2 ^ bits_of w → q < 2 ^ bits_of w → c ≤ 1 → (residue_of w (pos p -ℤ pos q -ℤ pos c) + q + c) % 2 ^ bits_of w ≡ p % 2 ^ bits_of w
exact_difference w p q c h i j =
    elim (cases_lt p (q + c)) as (λ _. (residue_of w (pos p -ℤ pos q -ℤ pos c) + q + c) % 2 ^ bits_of w ≡ p % 2 ^ bits_of w) [
      | inl k ↦ ap (λ n. n % 2 ^ bits_of w) (exact_below w p q c i j k) ∙ add-mod_right p (2 ^ bits_of w)
      | inr k ↦ ap (λ n. n % 2 ^ bits_of w) (exact_above w p q c h k)
    ]

regrouped : (d y c m : ℕ) → (d + y % m + c) % m ≡ (d + y + c) % m
regrouped d y c m =
    let e : d + y % m + c ≡ d + c + y % m = omega arith in
    let f : d + c + y ≡ d + y + c = omega arith in
    ap (λ n. n % m) e ∙ add-mod-mod (d + c) y m ∙ ap (λ n. n % m) f

difference_value : (w : Width) (x y : ℕ) (borrow : Bool) → cut_of w ((difference_of w x y borrow).0 + y + from_bool borrow) ≡ cut_of w x
difference_value w x y borrow =
    sym (regrouped (difference_of w x y borrow).0 y (from_bool borrow) (2 ^ bits_of w))
    ∙ ap (λ n. (residue_of w (n -ℤ integer_of w false y -ℤ pos (from_bool borrow)) + cut_of w y + from_bool borrow) % 2 ^ bits_of w) (unsigned_integer w x)
    ∙ ap (λ n. (residue_of w (pos (cut_of w x) -ℤ n -ℤ pos (from_bool borrow)) + cut_of w y + from_bool borrow) % 2 ^ bits_of w) (unsigned_integer w y)
    ∙ exact_difference w (cut_of w x) (cut_of w y) (from_bool borrow) (cut_below w x) (cut_below w y) (one_at_most borrow)
    ∙ mod-eq_of_lt (cut_below w x)

borrow_at : (m p q c : ℕ) → p < m → q < m → c ≤ 1 → not (int_le (pos 0) (pos p -ℤ pos q -ℤ pos c) && int_lt (pos p -ℤ pos q -ℤ pos c) (pos m)) ≡ nat_lt p (q + c)
borrow_at m p q c h i j = grind (arith, ints, nat_tests)

difference_borrow : (w : Width) (x y : ℕ) (borrow : Bool) → (difference_of w x y borrow).1.carry ≡ nat_lt (cut_of w x) (cut_of w y + from_bool borrow)
difference_borrow w x y borrow =
    let test : ℤ → Bool = λ n. not (int_le (pos 0) n && int_lt n (pos (2 ^ bits_of w))) in
    ap (λ n. test (n -ℤ integer_of w false y -ℤ pos (from_bool borrow))) (unsigned_integer w x)
    ∙ ap (λ n. test (pos (cut_of w x) -ℤ n -ℤ pos (from_bool borrow))) (unsigned_integer w y)
    ∙ borrow_at (2 ^ bits_of w) (cut_of w x) (cut_of w y) (from_bool borrow) (cut_below w x) (cut_below w y) (one_at_most borrow)

pub sum_laws : SumLaws
sum_laws = record { sum = sum_value; carries = sum_carry; difference = difference_value; borrows = difference_borrow }

-- ---- integers and their low bits

back_below : (w : Width) (end p : ℕ) → p < 2 ^ bits_of w → residue_of w (if nat_le end p then pos p -ℤ pos (2 ^ bits_of w) else pos p) ≡ p
back_below w end p h =
    elim (nat_le end p) as (λ b. residue_of w (if b then pos p -ℤ pos (2 ^ bits_of w) else pos p) ≡ p) [
      | true ↦ let e : pos p -ℤ pos (2 ^ bits_of w) ≡ negsuc (2 ^ bits_of w - p - 1) = omega (arith, ints) in
          let f : (2 ^ bits_of w - p - 1) % 2 ^ bits_of w ≡ 2 ^ bits_of w - p - 1 = mod-eq_of_lt (omega arith) in
          ap (residue_of w) e ∙ ap (λ n. 2 ^ bits_of w - 1 - n) f ∙ (let g : 2 ^ bits_of w - 1 - (2 ^ bits_of w - p - 1) ≡ p = omega arith in g)
      | false ↦ mod-eq_of_lt h
    ]

-- the low bits of the integer that a number stands for are the number's
pub integer_back : (w : Width) (signed : Bool) (x : ℕ) → residue_of w (integer_of w signed x) ≡ cut_of w x
integer_back w signed x = back_below w (end_of w signed) (cut_of w x) (cut_below w x)

extension_at : (m h p : ℕ) → m ≡ h + h → m ≤ 2 ^ 64 → p < m → (if nat_lt p h then p else p + (2 ^ 64 - m)) ≡ residue_of W64 (if nat_le h p then pos p -ℤ pos m else pos p)
extension_at m h p e i j = grind (arith, ints, nat_tests)

power_at_most : (w : Width) → 2 ^ bits_of w ≤ 2 ^ 64
power_at_most W8 = omega arith
power_at_most W16 = omega arith
power_at_most W32 = omega arith
power_at_most W64 = omega arith

-- the extension by the sign is the signed integer modulo 2^64
pub extension_is : (w : Width) (x : ℕ) → sext_of w x ≡ residue_of W64 (integer_of w true x)
extension_is w x = extension_at (2 ^ bits_of w) (2 ^ (bits_of w - 1)) (cut_of w x) (twice_half w) (power_at_most w) (cut_below w x)

extended_at : (m h p : ℕ) → m ≡ h + h → m ≤ 2 ^ 64 → p < m → (if nat_le (2 ^ 63) (if nat_lt p h then p else p + (2 ^ 64 - m)) then pos (if nat_lt p h then p else p + (2 ^ 64 - m)) -ℤ pos (2 ^ 64) else pos (if nat_lt p h then p else p + (2 ^ 64 - m))) ≡ (if nat_le h p then pos p -ℤ pos m else pos p)
extended_at m h p e i j = grind (arith, ints, nat_tests)

-- the extension by the sign stands for the same integer
pub extended_integer : (w : Width) (x : ℕ) → integer_of W64 true (sext_of w x) ≡ integer_of w true x
extended_integer w x =
    ap (λ n. if nat_le (2 ^ 63) n then pos n -ℤ pos (2 ^ 64) else pos n) (cut_same W64 (sext_of w x) (sext_below w x))
    ∙ extended_at (2 ^ bits_of w) (2 ^ (bits_of w - 1)) (cut_of w x) (twice_half w) (power_at_most w) (cut_below w x)

pub integer_laws : IntegerLaws
integer_laws = record { unsigned = unsigned_integer; back = integer_back; extension = extension_is; extended = extended_integer }

-- ---- shifts

counts_at_least : (w : Width) → bits_of w ≤ count_modulus w
counts_at_least W8 = omega arith
counts_at_least W16 = omega arith
counts_at_least W32 = omega arith
counts_at_least W64 = omega arith

bits_at_most : (w : Width) → bits_of w ≤ 64
bits_at_most W8 = omega arith
bits_at_most W16 = omega arith
bits_at_most W32 = omega arith
bits_at_most W64 = omega arith

-- a count below the width is taken as it is
unmasked : (w : Width) (count : ℕ) → count < bits_of w → count % count_modulus w ≡ count
unmasked w count h = let e = counts_at_least w in mod-eq_of_lt (omega arith)

left_gone_at : (w : Width) (x by : ℕ) → bits_of w ≤ by → cut_of w (x * 2 ^ by) ≡ 0
left_gone_at w x by h =
    let e : by ≡ by - bits_of w + bits_of w = omega arith in
    let power : 2 ^ by ≡ 2 ^ (by - bits_of w) * 2 ^ bits_of w = ap (λ n. 2 ^ n) e ∙ pow-add 2 (by - bits_of w) (bits_of w) in
    let product : x * (2 ^ (by - bits_of w) * 2 ^ bits_of w) ≡ x * 2 ^ (by - bits_of w) * 2 ^ bits_of w = omega arith in
    ap (λ n. x * n % 2 ^ bits_of w) power ∙ ap (λ n. n % 2 ^ bits_of w) product ∙ mul-mod_left (x * 2 ^ (by - bits_of w)) (2 ^ bits_of w)

right_gone_at : (w : Width) (x by : ℕ) → bits_of w ≤ by → cut_of w x / 2 ^ by ≡ 0
right_gone_at w x by h =
    let most : 2 ^ bits_of w ≤ 2 ^ by = pow_mono {i = bits_of w} {j = by} h in
    let below : cut_of w x < 2 ^ bits_of w = cut_below w x in
    let small : cut_of w x < 2 ^ by = omega arith in
    div-eq_of_lt small

cut_of_negative : (w : Width) (n : ℕ) → (2 ^ 64 - 1 - n % 2 ^ 64) % 2 ^ bits_of w ≡ 2 ^ bits_of w - 1 - n % 2 ^ bits_of w
cut_of_negative W8 n = omega arith
cut_of_negative W16 n = omega arith
cut_of_negative W32 n = omega arith
cut_of_negative W64 n = omega arith

-- the low bits of an integer are those of its low 64 bits
pub cut_of_residue : (w : Width) (n : ℤ) → cut_of w (residue_of W64 n) ≡ residue_of w n
cut_of_residue w (pos n) = cut_narrower w W64 n (bits_at_most w)
cut_of_residue w (negsuc n) = cut_of_negative w n

extended_shift : (w : Width) (x count : ℕ) → count < bits_of w → cut_of w (shift_of Sar W64 (sext_of w x) count) ≡ shift_of Sar w x count
extended_shift w x count h =
    let most = bits_at_most w in
    let whole : count % 64 ≡ count = mod-eq_of_lt (omega arith) in
    ap (λ n. cut_of w (residue_of W64 (int_shr (integer_of W64 true (sext_of w x)) n))) whole
    ∙ ap (λ n. cut_of w (residue_of W64 (int_shr n count))) (extended_integer w x)
    ∙ cut_of_residue w (int_shr (integer_of w true x) count)
    ∙ sym (ap (shifted_by Sar w x) (unmasked w count h))

pub shift_laws : ShiftLaws
shift_laws = record {
  left = λ w x count h. ap (shifted_by Shl w x) (unmasked w count h);
  right = λ w x count h. ap (shifted_by Shr w x) (unmasked w count h);
  arithmetic = λ w x count h. ap (shifted_by Sar w x) (unmasked w count h);
  left_gone = left_gone_at;
  right_gone = right_gone_at;
  extended = extended_shift;
  turned = turned_by_rest;
}

-- ---- products

-- two numbers that make 0 with the same number agree
same_inverse : (r s k m : ℕ) → (r + k) % m ≡ 0 → (s + k) % m ≡ 0 → r % m ≡ s % m
same_inverse r s k m e f =
    let p : (r + (s + k) % m) % m ≡ (r + (s + k)) % m = add-mod-mod r (s + k) m in
    let q : (s + (r + k) % m) % m ≡ (s + (r + k)) % m = add-mod-mod s (r + k) m in
    let t : r + (s + k) ≡ s + (r + k) = omega arith in
    let u : r + 0 ≡ r = omega arith in
    let v : s + 0 ≡ s = omega arith in
    sym (ap (λ n. n % m) u) ∙ sym (ap (λ n. (r + n) % m) f) ∙ p ∙ ap (λ n. n % m) t ∙ sym q ∙ ap (λ n. (s + n) % m) e ∙ ap (λ n. n % m) v

-- what stands for a negative integer makes 0 with its absolute value
negative_residue : (n m : ℕ) → 0 < m → (m - 1 - n % m + suc n) % m ≡ 0
negative_residue n m h =
    let below : n % m < m = mod-lt n h in
    let whole : n / m * m + n % m ≡ n = div-add-mod' n m in
    let e : m - 1 - n % m + suc n ≡ (n / m + 1) * m = omega arith in
    ap (λ k. k % m) e ∙ mul-mod_left (n / m + 1) m

-- a product with what makes 0 makes 0
zero_product : (p q k m : ℕ) → (q + k) % m ≡ 0 → (p * q + p * k) % m ≡ 0
zero_product p q k m e =
    let f : p * q + p * k ≡ p * (q + k) = omega arith in
    let g : p * 0 ≡ 0 = omega arith in
    ap (λ n. n % m) f ∙ sym (mul-mod_second p (q + k) m) ∙ ap (λ n. p * n % m) e ∙ ap (λ n. n % m) g ∙ zero_mod m

negated_residue : (w : Width) (k : ℕ) → (residue_of w (neg_ℤ (pos k)) + k) % 2 ^ bits_of w ≡ 0
negated_residue w zero = ap (λ n. (n + 0) % 2 ^ bits_of w) (zero_mod (2 ^ bits_of w)) ∙ zero_mod (2 ^ bits_of w)
negated_residue w (suc n) = negative_residue n (2 ^ bits_of w) (pow_pos (bits_of w))

residue_below : (w : Width) (n : ℤ) → residue_of w n < 2 ^ bits_of w
residue_below w (pos n) = mod-lt n (pow_pos (bits_of w))
residue_below w (negsuc n) = let some : 0 < 2 ^ bits_of w = pow_pos (bits_of w) in omega arith

mixed_product : (w : Width) (a b : ℕ) → residue_of w (neg_ℤ (pos (a * suc b))) ≡ a * residue_of w (negsuc b) % 2 ^ bits_of w
mixed_product w a b =
    sym (mod-eq_of_lt (residue_below w (neg_ℤ (pos (a * suc b)))))
    ∙ same_inverse (residue_of w (neg_ℤ (pos (a * suc b)))) (a * residue_of w (negsuc b)) (a * suc b) (2 ^ bits_of w)
    (negated_residue w (a * suc b))
    (zero_product a (residue_of w (negsuc b)) (suc b) (2 ^ bits_of w) (negative_residue b (2 ^ bits_of w) (pow_pos (bits_of w))))

turned_product : (a b c m : ℕ) → a * b % m ≡ c → b * a % m ≡ c
turned_product a b c m e = let f : b * a ≡ a * b = omega arith in ap (λ n. n % m) f ∙ e

negative_product : (r s a b m : ℕ) → (r + a) % m ≡ 0 → (s + b) % m ≡ 0 → a * b % m ≡ r * s % m
negative_product r s a b m e f =
    let k = zero_product r s b m f in
    let g : (b * r + b * a) % m ≡ 0 = zero_product b r a m e in
    let t : b * r + b * a ≡ a * b + r * b = omega arith in
    same_inverse (a * b) (r * s) (r * b) m (sym (ap (λ n. n % m) t) ∙ g) k

-- the residue of a product is that of the product of the residues
pub residue_product : (w : Width) (a b : ℤ) → residue_of w (a *ℤ b) ≡ residue_of w a * residue_of w b % 2 ^ bits_of w
residue_product w (pos a) (pos b) = sym (mul-mod_first a (b % 2 ^ bits_of w) (2 ^ bits_of w) ∙ mul-mod_second a b (2 ^ bits_of w))
residue_product w (pos a) (negsuc b) = mixed_product w a b ∙ sym (mul-mod_first a (residue_of w (negsuc b)) (2 ^ bits_of w))
residue_product w (negsuc a) (pos b) =
    let e : suc a * b ≡ b * suc a = omega arith in
    ap (λ n. residue_of w (neg_ℤ (pos n))) e ∙ mixed_product w b a
    ∙ turned_product (residue_of w (negsuc a)) b (residue_of w (negsuc a) * (b % 2 ^ bits_of w) % 2 ^ bits_of w) (2 ^ bits_of w) (sym (mul-mod_second (residue_of w (negsuc a)) b (2 ^ bits_of w)))
residue_product w (negsuc a) (negsuc b) =
    negative_product (residue_of w (negsuc a)) (residue_of w (negsuc b)) (suc a) (suc b) (2 ^ bits_of w)
    (negative_residue a (2 ^ bits_of w) (pow_pos (bits_of w)))
    (negative_residue b (2 ^ bits_of w) (pow_pos (bits_of w)))

product_low : (w : Width) (signed : Bool) (x y : ℕ) → (product_of w signed x y).0 ≡ cut_of w (x * y)
product_low w signed x y =
    residue_product w (integer_of w signed x) (integer_of w signed y)
    ∙ ap (λ n. n * residue_of w (integer_of w signed y) % 2 ^ bits_of w) (integer_back w signed x)
    ∙ ap (λ n. cut_of w x * n % 2 ^ bits_of w) (integer_back w signed y)
    ∙ cut_products w x y

product_high : (w : Width) (x y : ℕ) → (product_of w false x y).1 ≡ cut_of w x * cut_of w y / 2 ^ bits_of w
product_high w x y =
    let small : cut_of w x * cut_of w y < 2 ^ bits_of w * 2 ^ bits_of w = mul-lt (cut_of w x) (cut_of w y) (2 ^ bits_of w) (2 ^ bits_of w) (cut_below w x) (cut_below w y) in
    ap (λ n. residue_of w (int_shr (n *ℤ integer_of w false y) (bits_of w))) (unsigned_integer w x)
    ∙ ap (λ n. residue_of w (int_shr (pos (cut_of w x) *ℤ n) (bits_of w))) (unsigned_integer w y)
    ∙ mod-eq_of_lt (div_below (cut_of w x * cut_of w y) (2 ^ bits_of w) (2 ^ bits_of w) (pow_pos (bits_of w)) small)

pub product_laws : ProductLaws
product_laws = record { low = product_low; high = product_high }
