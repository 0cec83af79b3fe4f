-- Comparisons: what the flags of a subtraction say of the two numbers, unsigned and signed.
use Rattle.std.proofs.Common.{◌≡◌, ℕ, ◌+◌, ◌-◌, ◌%◌, ◌^◌, ◌<◌, ◌≤◌, true, false, not, nat_lt, nat_le, if◌then◌else◌, ℤ, pos, negsuc, neg_ℤ, ◌+ℤ◌, ◌-ℤ◌, inl, inr, ◌⊎◌, subst, refl, sym, ap, ◌∙◌, arith}
use Rattle.std.specs.Prelude.{◌==◌, ◌&&◌, ◌||◌, int_lt, int_le}
use Rattle.std.proofs.lemmas.Bool.Decides.{nat_tests}
use Rattle.std.proofs.lemmas.Bool.{cases_lt}
use Rattle.std.proofs.lemmas.Int.{ints}
use Rattle.std.proofs.Math.Nat.{mod-lt, mod-eq_of_lt}
use Rattle.bits_core.specs.declared.width.Width.{Width}
use Rattle.bits_core.specs.declared.width.Width.TheVariants.{W8, W16, W32, W64}
use Rattle.bits_core.specs.Width.{bits_of}
use Rattle.bits_core.specs.LowBits.{cut_of}
use Rattle.bits_core.specs.Integers.{integer_of, residue_of}
use Rattle.bits_core.specs.Condition.{differ}
use Rattle.bits_core.specs.Arithmetic.{compared}
use Rattle.number_laws.specs.Laws.{ComparisonLaws}
use Rattle.number_laws.proofs.LowBitsLemmas.{cut_below}

-- a number of the width is twice the signed end, at every width
pub twice_half : (w : Width) → 2 ^ bits_of w ≡ 2 ^ (bits_of w - 1) + 2 ^ (bits_of w - 1)
twice_half W8 = refl
twice_half W16 = refl
twice_half W32 = refl
twice_half W64 = refl

-- a number read as unsigned, or as signed; m is 2^width and h its half
abbrev read : ℕ → ℕ → ℕ → ℤ
read m end p = if nat_le end p then pos p -ℤ pos m else pos p

unsigned_read : (m p : ℕ) → p < m → read m m p ≡ pos p
unsigned_read m p h = grind (arith, nat_tests)

-- a difference of two numbers below m, without and with a borrow
abbrev left : ℕ → ℤ → ℕ
left m (pos n) = n % m
left m (negsuc n) = m - 1 - n % m

left_above : (m p q : ℕ) → p < m → q ≤ p → left m (pos p -ℤ pos q -ℤ pos 0) ≡ p - q
left_above m p q h i =
    let e : pos p -ℤ pos q -ℤ pos 0 ≡ pos (p - q) = omega (arith, ints) in
    ap (left m) e ∙ mod-eq_of_lt (omega arith)

left_below : (m p q : ℕ) → q < m → p < q → left m (pos p -ℤ pos q -ℤ pos 0) ≡ m - (q - p)
left_below m p q h i =
    let e : pos p -ℤ pos q -ℤ pos 0 ≡ negsuc (q - p - 1) = omega (arith, ints) in
    let f : (q - p - 1) % m ≡ q - p - 1 = mod-eq_of_lt (omega arith) in
    ap (left m) e ∙ ap (λ n. m - 1 - n) f ∙ (let g : m - 1 - (q - p - 1) ≡ m - (q - p) = omega arith in g)

-- the borrow is the unsigned order
borrow_is : (m p q : ℕ) → p < m → q < m → not (int_le (pos 0) (pos p -ℤ pos q -ℤ pos 0) && int_lt (pos p -ℤ pos q -ℤ pos 0) (pos m)) ≡ nat_lt p q
borrow_is m p q h i = grind (arith, ints, nat_tests)

by_order : {P : Type 0} (x y : ℕ) → (x < y → P) → (y ≤ x → P) → P
by_order {P} x y f g = elim (cases_lt x y) as (λ _. P) [ inl h ↦ f h | inr h ↦ g h ]

-- a result of 0 is equality
zero_is : (m p q : ℕ) → p < m → q < m → (left m (pos p -ℤ pos q -ℤ pos 0) == 0) ≡ (p == q)
zero_is m p q h i =
    by_order p q
    (λ k. ap (λ n. n == 0) (left_below m p q i k) ∙ (let f : (m - (q - p) == 0) ≡ (p == q) = grind (arith, nat_tests) in f))
    (λ k. ap (λ n. n == 0) (left_above m p q h k) ∙ (let f : (p - q == 0) ≡ (p == q) = grind (arith, nat_tests) in f))

over_is : (h r : ℕ) (x y : ℤ) → r < h + h → (pos r ≡ x -ℤ y) ⊎ (pos r ≡ x -ℤ y +ℤ pos (h + h)) → differ (nat_le h r) (not (int_le (neg_ℤ (pos h)) (x -ℤ y -ℤ pos 0) && int_lt (x -ℤ y -ℤ pos 0) (pos h))) ≡ int_lt x y
over_is h r x y k (inl e) = grind (arith, ints, nat_tests)
over_is h r x y k (inr e) = grind (arith, ints, nat_tests)

ReadAs : ℕ → ℕ → ℕ → ℤ → Type 0
ReadAs m h p x = ((p < h) × (x ≡ pos p)) ⊎ ((h ≤ p) × (x ≡ pos p -ℤ pos m))

read_as : (m h p : ℕ) → ReadAs m h p (read m h p)
unfolding ReadAs
read_as m h p =
    by_order p h
    (λ k. inl (k, (let e : read m h p ≡ pos p = grind (arith, nat_tests) in e)))
    (λ k. inr (k, (let e : read m h p ≡ pos p -ℤ pos m = grind (arith, nat_tests) in e)))

LeftAs : ℕ → ℕ → ℕ → ℕ → Type 0
LeftAs m p q r = ((q ≤ p) × (r ≡ p - q)) ⊎ ((p < q) × (r ≡ m - (q - p)))

left_as : (m p q : ℕ) → p < m → q < m → LeftAs m p q (left m (pos p -ℤ pos q -ℤ pos 0))
unfolding LeftAs
left_as m p q h i = by_order p q (λ k. inr (k, left_below m p q i k)) (λ k. inl (k, left_above m p q h k))

turns : (h p q r : ℕ) (x y : ℤ) → p < h + h → q < h + h → ReadAs (h + h) h p x → ReadAs (h + h) h q y → LeftAs (h + h) p q r → (pos r ≡ x -ℤ y) ⊎ (pos r ≡ x -ℤ y +ℤ pos (h + h))
unfolding ReadAs LeftAs
turns h p q r x y i j (inl a) (inl b) (inl c) = inl (omega (arith, ints, a.0, a.1, b.0, b.1, c.0, c.1))
turns h p q r x y i j (inl a) (inl b) (inr c) = inr (omega (arith, ints, a.0, a.1, b.0, b.1, c.0, c.1))
turns h p q r x y i j (inl a) (inr b) (inl c) = inl (omega (arith, ints, a.0, a.1, b.0, b.1, c.0, c.1))
turns h p q r x y i j (inl a) (inr b) (inr c) = inl (omega (arith, ints, a.0, a.1, b.0, b.1, c.0, c.1))
turns h p q r x y i j (inr a) (inl b) (inl c) = inr (omega (arith, ints, a.0, a.1, b.0, b.1, c.0, c.1))
turns h p q r x y i j (inr a) (inl b) (inr c) = inr (omega (arith, ints, a.0, a.1, b.0, b.1, c.0, c.1))
turns h p q r x y i j (inr a) (inr b) (inl c) = inl (omega (arith, ints, a.0, a.1, b.0, b.1, c.0, c.1))
turns h p q r x y i j (inr a) (inr b) (inr c) = inr (omega (arith, ints, a.0, a.1, b.0, b.1, c.0, c.1))

left_small : (m : ℕ) (n : ℤ) → 0 < m → left m n < m
left_small m (pos n) h = mod-lt n h
left_small m (negsuc n) h = omega arith

-- the sign differs from the overflow where the first number is less
less_is : (m h p q : ℕ) → m ≡ h + h → p < m → q < m → differ (nat_le h (left m (pos p -ℤ pos q -ℤ pos 0))) (not (int_le (neg_ℤ (pos h)) (read m h p -ℤ read m h q -ℤ pos 0) && int_lt (read m h p -ℤ read m h q -ℤ pos 0) (pos h))) ≡ int_lt (read m h p) (read m h q)
less_is m h p q e i j =
    let E : ℕ → Type 0 = λ m. p < m → q < m → differ (nat_le h (left m (pos p -ℤ pos q -ℤ pos 0))) (not (int_le (neg_ℤ (pos h)) (read m h p -ℤ read m h q -ℤ pos 0) && int_lt (read m h p -ℤ read m h q -ℤ pos 0) (pos h))) ≡ int_lt (read m h p) (read m h q) in
    subst E (sym e)
    (λ k l. over_is h (left (h + h) (pos p -ℤ pos q -ℤ pos 0)) (read (h + h) h p) (read (h + h) h q) (left_small (h + h) (pos p -ℤ pos q -ℤ pos 0) (omega arith)) (turns h p q (left (h + h) (pos p -ℤ pos q -ℤ pos 0)) (read (h + h) h p) (read (h + h) h q) k l (read_as (h + h) h p) (read_as (h + h) h q) (left_as (h + h) p q k l)))
    i j

-- at most is equality or less
most_is : (m h p q : ℕ) (x y : ℤ) → p < m → q < m → h ≤ m → ReadAs m h p x → ReadAs m h q y → ((p == q) || int_lt x y) ≡ int_le x y
unfolding ReadAs
most_is m h p q x y i j k (inl a) (inl b) = grind (arith, ints, nat_tests)
most_is m h p q x y i j k (inl a) (inr b) = grind (arith, ints, nat_tests)
most_is m h p q x y i j k (inr a) (inl b) = grind (arith, ints, nat_tests)
most_is m h p q x y i j k (inr a) (inr b) = grind (arith, ints, nat_tests)

not_less : (x y : ℤ) → not (int_lt x y) ≡ int_le y x
not_less x y = grind (arith, ints)

not_most : (x y : ℤ) → not (int_le x y) ≡ int_lt y x
not_most x y = grind (arith, ints)

residue_left : (w : Width) (n : ℤ) → residue_of w n ≡ left (2 ^ bits_of w) n
residue_left w (pos n) = refl
residue_left w (negsuc n) = refl

-- unsigned, a number of the width stands for itself
pub unsigned_integer : (w : Width) (x : ℕ) → integer_of w false x ≡ pos (cut_of w x)
unsigned_integer w x = unsigned_read (2 ^ bits_of w) (cut_of w x) (cut_below w x)

exact_difference : (w : Width) (x y : ℕ) → integer_of w false x -ℤ integer_of w false y -ℤ pos 0 ≡ pos (cut_of w x) -ℤ pos (cut_of w y) -ℤ pos 0
exact_difference w x y =
    ap (λ n. n -ℤ integer_of w false y -ℤ pos 0) (unsigned_integer w x)
    ∙ ap (λ n. pos (cut_of w x) -ℤ n -ℤ pos 0) (unsigned_integer w y)

-- the carry, the zero and the sign with the overflow after a comparison
pub compared_carry : (w : Width) (x y : ℕ) → (compared w x y).carry ≡ nat_lt (cut_of w x) (cut_of w y)
compared_carry w x y =
    ap (λ n. not (int_le (pos 0) n && int_lt n (pos (2 ^ bits_of w)))) (exact_difference w x y)
    ∙ borrow_is (2 ^ bits_of w) (cut_of w x) (cut_of w y) (cut_below w x) (cut_below w y)

left_is : (w : Width) (x y : ℕ) → residue_of w (integer_of w false x -ℤ integer_of w false y -ℤ pos 0) ≡ left (2 ^ bits_of w) (pos (cut_of w x) -ℤ pos (cut_of w y) -ℤ pos 0)
left_is w x y = residue_left w (integer_of w false x -ℤ integer_of w false y -ℤ pos 0) ∙ ap (left (2 ^ bits_of w)) (exact_difference w x y)

pub compared_zero : (w : Width) (x y : ℕ) → (compared w x y).zero ≡ (cut_of w x == cut_of w y)
compared_zero w x y = ap (λ n. n == 0) (left_is w x y) ∙ zero_is (2 ^ bits_of w) (cut_of w x) (cut_of w y) (cut_below w x) (cut_below w y)

pub compared_less : (w : Width) (x y : ℕ) → differ (compared w x y).sign (compared w x y).over ≡ int_lt (integer_of w true x) (integer_of w true y)
compared_less w x y =
    ap (λ n. differ (nat_le (2 ^ (bits_of w - 1)) n) (compared w x y).over) (left_is w x y)
    ∙ less_is (2 ^ bits_of w) (2 ^ (bits_of w - 1)) (cut_of w x) (cut_of w y) (twice_half w) (cut_below w x) (cut_below w y)

compared_most : (w : Width) (x y : ℕ) → ((compared w x y).zero || differ (compared w x y).sign (compared w x y).over) ≡ int_le (integer_of w true x) (integer_of w true y)
compared_most w x y =
    let half : 2 ^ (bits_of w - 1) ≤ 2 ^ bits_of w = omega (arith, twice_half w) in
    ap (λ b. b || differ (compared w x y).sign (compared w x y).over) (compared_zero w x y)
    ∙ ap (λ b. (cut_of w x == cut_of w y) || b) (compared_less w x y)
    ∙ most_is (2 ^ bits_of w) (2 ^ (bits_of w - 1)) (cut_of w x) (cut_of w y) (integer_of w true x) (integer_of w true y) (cut_below w x) (cut_below w y) half (read_as (2 ^ bits_of w) (2 ^ (bits_of w - 1)) (cut_of w x)) (read_as (2 ^ bits_of w) (2 ^ (bits_of w - 1)) (cut_of w y))

not_lt_nat : (p q : ℕ) → not (nat_lt p q) ≡ nat_le q p
not_lt_nat p q = grind (arith, nat_tests)

most_nat : (p q : ℕ) → (nat_lt p q || (p == q)) ≡ nat_le p q
most_nat p q = grind (arith, nat_tests)

not_most_nat : (p q : ℕ) → not (nat_le p q) ≡ nat_lt q p
not_most_nat p q = grind (arith, nat_tests)

be_is : (w : Width) (x y : ℕ) → ((compared w x y).carry || (compared w x y).zero) ≡ nat_le (cut_of w x) (cut_of w y)
be_is w x y =
    ap (λ b. b || (compared w x y).zero) (compared_carry w x y)
    ∙ ap (λ b. nat_lt (cut_of w x) (cut_of w y) || b) (compared_zero w x y)
    ∙ most_nat (cut_of w x) (cut_of w y)

-- each condition after a comparison
pub comparison : ComparisonLaws
comparison = record {
  b = compared_carry;
  ae = λ w x y. ap not (compared_carry w x y) ∙ not_lt_nat (cut_of w x) (cut_of w y);
  e = compared_zero;
  ne = λ w x y. ap not (compared_zero w x y);
  be = be_is;
  a = λ w x y. ap not (be_is w x y) ∙ not_most_nat (cut_of w x) (cut_of w y);
  l = compared_less;
  ge = λ w x y. ap not (compared_less w x y) ∙ not_less (integer_of w true x) (integer_of w true y);
  le = compared_most;
  g = λ w x y. ap not (compared_most w x y) ∙ not_most (integer_of w true x) (integer_of w true y);
}
