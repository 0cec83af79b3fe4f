-- Numbers: how many digits they have, and that what is written is read again.
use Rattle.std.proofs.Common.{◌≡◌, ℕ, zero, suc, ◌+◌, ◌*◌, ◌/◌, ◌%◌, ◌^◌, ◌<◌, ◌≤◌, Bool, true, false, ◌&&◌, not, eqb, ltb, if◌then◌else◌, List, [], ◌∷◌, ◌++◌, length, Option, Some, None, refl, sym, ap, ap₂, subst, ◌∙◌, append_assoc, arith, inl, inr, lit≤}
use Rattle.std.specs.Char.{digit_value}
use Rattle.std.specs.List.{AllByRecursion}
use Rattle.std.specs.Fmt.{decimal, digits, digits_onto, digit_glyph}
use Rattle.std.specs.Str.Parse.{AllDigits, IsNumeral, digits_value, digits_value_after}
use Rattle.std.proofs.lemmas.Fmt.{digits_is_IsNumeral}
use Rattle.std.proofs.lemmas.Bool.{lt-ltb, le-ltb, ltb-true, and_from, agree_below_at, cases_lt, eqb-true, cases_Bool}
use Rattle.std.proofs.Math.Nat.{pow-zero, pow-suc, one-mul, div-lt_iff_lt-mul, div-eq_of_lt}
use Rattle.term_text.specs.Numbers.{number_text, radix, pushed_digit, digits_at, numeral_at, number_at}
use Rattle.term_text.specs.Names.{is_word_byte}

-- ---- the digits of a number

-- digits before others
onto_append : (k n : ℕ) (acc : List ℕ) → digits_onto k 16 false n acc ≡ digits_onto k 16 false n [] ++ acc
onto_append zero n acc = refl
onto_append (suc k) n acc =
    by_last (eqb (n / 16) 0) (onto_append k (n / 16) (digit_glyph false (n % 16) ∷ acc)) (onto_append k (n / 16) (digit_glyph false (n % 16) ∷ []))
  where
    last : ℕ
    last = digit_glyph false (n % 16)

    by_last : (b : Bool)
        → digits_onto k 16 false (n / 16) (last ∷ acc) ≡ digits_onto k 16 false (n / 16) [] ++ last ∷ acc
        → digits_onto k 16 false (n / 16) (last ∷ []) ≡ digits_onto k 16 false (n / 16) [] ++ last ∷ []
        → (if b then last ∷ acc else digits_onto k 16 false (n / 16) (last ∷ acc)) ≡ (if b then last ∷ [] else digits_onto k 16 false (n / 16) (last ∷ [])) ++ acc
    by_last true more one = refl
    by_last false more one =
        more
        ∙ sym (append_assoc (digits_onto k 16 false (n / 16) []) (last ∷ []) acc)
        ∙ ap (λ (l : List ℕ). l ++ acc) (sym one)

-- a quotient has a digit less
fewer : (base k n : ℕ) → 0 < base → n < base ^ suc k → n / base < base ^ k
fewer base k n pos lt = (div-lt_iff_lt-mul pos).1 (subst (λ (m : ℕ). n < m) (pow-suc base k) lt)

-- room for one digit more changes nothing
onto_room : (k n : ℕ) (acc : List ℕ) → 0 < k → n < 16 ^ k
    → digits_onto (suc k) 16 false n acc ≡ digits_onto k 16 false n acc
onto_room zero n acc some small = absurd (omega arith)
onto_room (suc zero) n acc some small = rw (let e : n / 16 ≡ 0 = omega arith in e) refl
onto_room (suc (suc k)) n acc some small =
    let last = digit_glyph false (n % 16) in
    ap (λ (l : List ℕ). if eqb (n / 16) 0 then last ∷ acc else l) (onto_room (suc k) (n / 16) (last ∷ acc) (omega arith) (fewer 16 (suc k) n (omega arith) small))

-- a number of one digit
pub one_digit : (n : ℕ) → n < 16 → digits 16 false n ≡ digit_glyph false (n % 16) ∷ []
unfolding digits
one_digit n lt = rw (let e : n / 16 ≡ 0 = omega arith in e) refl

-- the last digit of a number stands after those of the quotient
pub last_digit : (n : ℕ) → n < 2 ^ 64 → 16 ≤ n
    → digits 16 false n ≡ digits 16 false (n / 16) ++ digit_glyph false (n % 16) ∷ []
unfolding digits
last_digit n lt large =
    let last = digit_glyph false (n % 16) in
    let many : eqb (n / 16) 0 ≡ false = elim (cases_Bool (eqb (n / 16) 0)) [ inl is ↦ absurd (let e = eqb-true (n / 16) 0 is in omega arith) | inr other ↦ other ] in
    ap (λ (b : Bool). if b then last ∷ [] else digits_onto 63 16 false (n / 16) (last ∷ [])) many
    ∙ onto_append 63 (n / 16) (last ∷ [])
    ∙ ap (λ (l : List ℕ). l ++ last ∷ []) (sym (onto_room 63 (n / 16) [] (omega arith) (omega arith)))

-- the last digit is appended to those of the quotient
pub put_last : (before between : List ℕ) (n d : ℕ) → n < 2 ^ 64 → 16 ≤ n
    → between ≡ before ++ digits 16 false (n / 16) → d ≡ digit_glyph false (n % 16)
    → between ++ d ∷ [] ≡ before ++ digits 16 false n
put_last before between n d lt large e g =
    ap (λ (l : List ℕ). l ++ d ∷ []) e
    ∙ append_assoc before (digits 16 false (n / 16)) (d ∷ [])
    ∙ ap (λ (x : ℕ). before ++ (digits 16 false (n / 16) ++ x ∷ [])) g
    ∙ ap (λ (l : List ℕ). before ++ l) (sym (last_digit n lt large))

-- the one digit is appended
pub put_only : (before between : List ℕ) (n d : ℕ) → n < 16 → between ≡ before → d ≡ digit_glyph false (n % 16)
    → between ++ d ∷ [] ≡ before ++ digits 16 false n
put_only before between n d small e g = ap₂ (λ (l : List ℕ) (x : ℕ). l ++ x ∷ []) e g ∙ ap (λ (l : List ℕ). before ++ l) (sym (one_digit n small))

-- a number below base ^ m has at most m digits
onto_length : (base k m n : ℕ) (acc : List ℕ) → 0 < base → 0 < m → n < base ^ m
    → length (digits_onto k base false n acc) ≤ m + length acc
onto_length base zero m n acc pos some small = omega arith
onto_length base (suc k) zero n acc pos some small = absurd (omega arith)
onto_length base (suc k) (suc zero) n acc pos some small =
    let one : base ^ 1 ≡ base = pow-suc base 0 ∙ ap (λ (k : ℕ). k * base) (pow-zero base) ∙ one-mul base in
    rw (div-eq_of_lt {n = n} {m = base} (omega (arith, one))) (omega arith)
onto_length base (suc k) (suc (suc m)) n acc pos some small =
    by_last (eqb (n / base) 0) (onto_length base k (suc m) (n / base) (digit_glyph false (n % base) ∷ acc) pos (omega arith) (fewer base (suc m) n pos small))
  where
    last : ℕ
    last = digit_glyph false (n % base)

    by_last : (b : Bool) → length (digits_onto k base false (n / base) (last ∷ acc)) ≤ suc m + length (last ∷ acc)
        → length (if b then last ∷ acc else digits_onto k base false (n / base) (last ∷ acc)) ≤ suc (suc m) + length acc
    by_last true rest = omega arith
    by_last false rest = omega (arith, rest)

-- 16 hexadecimal digits at most
pub hex_short : (n : ℕ) → n < 2 ^ 64 → length (digits 16 false n) ≤ 16
unfolding digits
hex_short n lt = omega (arith, onto_length 16 64 16 n [] (omega arith) (omega arith) (omega arith))

-- 4 decimal digits at most
decimal_short : (n : ℕ) → n < 10000 → length (decimal n) ≤ 4
unfolding digits
decimal_short n lt = omega (arith, onto_length 10 64 4 n [] (omega arith) (omega arith) (omega arith))

-- a number has at most 18 bytes, `0x` and 16 digits
pub number_short : (n : ℕ) → n < 2 ^ 64 → length (number_text n) ≤ 18
number_short n lt = by_size (ltb n 10000) refl
  where
    by_size : (b : Bool) → ltb n 10000 ≡ b → length (if b then decimal n else 48 ∷ 120 ∷ digits 16 false n) ≤ 18
    by_size true e = omega (arith, decimal_short n (ltb-true n 10000 e))
    by_size false e = omega (arith, hex_short n lt)

-- ---- digits are read

-- a digit more makes no number smaller
grows : (hex : Bool) (m d : ℕ) → m ≤ m * radix hex + d
grows true m d = omega arith
grows false m d = omega arith

-- nor do many
after_le : (hex : Bool) (m : ℕ) (cs : List ℕ) → m ≤ digits_value_after (radix hex) m cs
after_le hex m [] = omega arith
after_le hex m (c ∷ cs) = omega (arith, grows hex m (digit_value c), after_le hex (m * radix hex + digit_value c) cs)

-- a digit that has room is pushed
pushed_is : (hex : Bool) (m c : ℕ) → digit_value c < radix hex → m * radix hex + digit_value c < 2 ^ 64
    → pushed_digit hex m c ≡ Some (m * radix hex + digit_value c)
pushed_is hex m c lt small = let e = and_from (ltb (digit_value c) (radix hex)) (ltb (m * radix hex + digit_value c) (2 ^ 64)) (lt-ltb _ _ lt) (lt-ltb _ _ small) in rw e refl

-- the digits after the first
abbrev rest_of : Bool → List ℕ → Option ℕ → Option ℕ
rest_of hex cs o = elim o as (λ o. Option ℕ) [ None ↦ None | Some m ↦ digits_at hex m cs ]

-- digits spell their value
digits_are : (hex : Bool) (m : ℕ) (cs : List ℕ) → AllDigits (radix hex) cs
    → digits_value_after (radix hex) m cs < 2 ^ 64 → digits_at hex m cs ≡ Some (digits_value_after (radix hex) m cs)
digits_are hex m [] all small = refl
digits_are hex m (c ∷ cs) all small =
    let next = m * radix hex + digit_value c in
    ap (rest_of hex cs) (pushed_is hex m c all.0 (omega (arith, after_le hex next cs))) ∙ digits_are hex next cs all.1 small

-- a numeral is its digits
not_empty : (hex : Bool) (cs : List ℕ) → 0 < length cs → numeral_at hex cs ≡ digits_at hex 0 cs
not_empty hex [] lt = absurd (omega arith)
not_empty hex (c ∷ cs) lt = refl

-- a numeral is read as its value
numeral_is : (hex : Bool) (cs : List ℕ) (n : ℕ) → IsNumeral (radix hex) cs → digits_value (radix hex) cs ≡ n
    → n < 2 ^ 64 → numeral_at hex cs ≡ Some n
numeral_is hex cs n is e lt = not_empty hex cs is.0 ∙ digits_are hex 0 cs is.1 (rw e lt) ∙ ap (λ (k : ℕ). Some k) e

-- hexadecimal digits are a numeral of the number
hex_is : (n : ℕ) → n < 2 ^ 64 → IsNumeral 16 (digits 16 false n) × (digits_value 16 (digits 16 false n) ≡ n)
hex_is n lt = digits_is_IsNumeral 16 false (lit≤ tt) (lit≤ tt) n (omega arith)

-- so are decimal digits
decimal_is : (n : ℕ) → n < 2 ^ 64 → IsNumeral 10 (decimal n) × (digits_value 10 (decimal n) ≡ n)
decimal_is n lt = digits_is_IsNumeral 10 false (lit≤ tt) (lit≤ tt) n (omega arith)

-- hexadecimal that is written is read again
pub hex_reads : (n : ℕ) → n < 2 ^ 64 → numeral_at true (digits 16 false n) ≡ Some n
hex_reads n lt = let h = hex_is n lt in numeral_is true _ n h.0 h.1 lt

-- decimal that is written is read again
pub decimal_reads : (n : ℕ) → n < 2 ^ 64 → numeral_at false (decimal n) ≡ Some n
decimal_reads n lt = let h = decimal_is n lt in numeral_is false _ n h.0 h.1 lt

-- no decimal digit is an x
no_x : (b : ℕ) → digit_value b < 10 → eqb b 120 ≡ false
no_x b lt =
    elim (cases_Bool (eqb b 120)) [
      | inl is ↦ absurd (let e : b ≡ 120 = eqb-true b 120 is in let h : digit_value 120 < 10 = subst (λ (x : ℕ). digit_value x < 10) e lt in omega arith)
      | inr other ↦ other
    ]

-- two hold together only where the second does
and_no : (a b : Bool) → b ≡ false → (a && b) ≡ false
and_no true b e = e
and_no false b e = refl

-- decimal digits have no 0x
plain_number : (cs : List ℕ) → AllDigits 10 cs → number_at cs ≡ numeral_at false cs
plain_number [] all = refl
plain_number (a ∷ []) all = refl
plain_number (a ∷ b ∷ bs) all = let e = and_no (eqb a 48) (eqb b 120) (no_x b all.1.0) in rw e refl

-- a number that is written is read again
pub number_reads : (n : ℕ) → n < 2 ^ 64 → number_at (number_text n) ≡ Some n
number_reads n lt = by_size (ltb n 10000)
  where
    by_size : (b : Bool) → number_at (if b then decimal n else 48 ∷ 120 ∷ digits 16 false n) ≡ Some n
    by_size true = let h = decimal_is n lt in plain_number _ h.0.1 ∙ numeral_is false _ n h.0 h.1 lt
    by_size false = hex_reads n lt

-- ---- digits are bytes of words

-- the bytes are those of a word
abbrev pub AreWord : List ℕ → Type 0
AreWord = AllByRecursion (λ b. is_word_byte b ≡ true)

-- a hexadecimal digit
pub digit_word : (c : ℕ) → digit_value c < 16 → is_word_byte c ≡ true
digit_word c lt =
    elim (cases_lt c 123) [
      | inl low ↦ by_test (is_word_byte c) (agree_below_at (λ c. ltb (digit_value c) 16 && not (is_word_byte c)) (λ c. false) 123 c refl low)
      | inr high ↦ absurd (let e : digit_value c ≡ 36 = rw (le-ltb c 48 (omega arith), le-ltb c 58 (omega arith), le-ltb c 65 (omega arith), le-ltb c 91 (omega arith), le-ltb c 97 (omega arith), le-ltb c 123 high) refl in omega arith)
    ]
  where
    by_test : (b : Bool) → (ltb (digit_value c) 16 && not b) ≡ false → b ≡ true
    by_test true e = refl
    by_test false e = let h : ltb (digit_value c) 16 ≡ true = lt-ltb _ _ lt in absurd (let g = rw h at e in cc)

-- digits
are_words : (r : ℕ) (cs : List ℕ) → r ≤ 16 → AllDigits r cs → AreWord cs
are_words r [] le all = tt
are_words r (c ∷ cs) le all = (digit_word c (omega (arith, all.0)), are_words r cs le all.1)

-- hexadecimal
pub hex_word : (n : ℕ) → n < 2 ^ 64 → AreWord (digits 16 false n)
hex_word n lt = are_words 16 _ (lit≤ tt) (hex_is n lt).0.1

-- decimal
pub decimal_word : (n : ℕ) → n < 2 ^ 64 → AreWord (decimal n)
decimal_word n lt = are_words 10 _ (lit≤ tt) (decimal_is n lt).0.1

-- either
pub number_word : (n : ℕ) → n < 2 ^ 64 → AreWord (number_text n)
number_word n lt = by_size (ltb n 10000)
  where
    by_size : (b : Bool) → AreWord (if b then decimal n else 48 ∷ 120 ∷ digits 16 false n)
    by_size true = decimal_word n lt
    by_size false = (refl, (refl, hex_word n lt))

-- ---- no number is empty

-- hexadecimal
pub hex_begins : (n : ℕ) → n < 2 ^ 64 → 0 < length (digits 16 false n)
hex_begins n lt = (hex_is n lt).0.0

-- decimal
pub decimal_begins : (n : ℕ) → n < 2 ^ 64 → 0 < length (decimal n)
decimal_begins n lt = (decimal_is n lt).0.0

-- either
pub number_begins : (n : ℕ) → n < 2 ^ 64 → 0 < length (number_text n)
number_begins n lt = by_size (ltb n 10000)
  where
    by_size : (b : Bool) → 0 < length (if b then decimal n else 48 ∷ 120 ∷ digits 16 false n)
    by_size true = decimal_begins n lt
    by_size false = omega arith
