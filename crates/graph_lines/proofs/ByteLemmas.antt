-- Bytes: those of numbers and terms may stand in a line, and part no words.
use Rattle.std.proofs.Common.{◌≡◌, ℕ, ◌≤◌, ◌^◌, ◌<◌, Bool, true, false, not, ◌&&◌, eqb, leb, List, [], ◌∷◌, ◌++◌, inl, inr, refl, subst, ◌∙◌, arith}
use Rattle.std.specs.Fmt.{decimal, digits}
use Rattle.std.specs.List.{list_all}
use Rattle.std.proofs.lemmas.Bool.{and_parts, and_from, or_cases, leb-true, le-leb, eqb-true, cases_Bool, both_ways, not_from_false}
use Rattle.std.proofs.lemmas.List.Folds.{list_all-append}
use Rattle.term_text.specs.Names.{is_word_byte, is_term_byte}
use Rattle.term_text.proofs.CleanLemmas.{hex_clean, decimal_clean}
use Rattle.graph_lines.specs.Words.{is_printable, are_printable, joined}
use Rattle.graph_lines.proofs.WordLemmas.{has_none}

-- what each byte of a term passes, all bytes of a term pass
pub all_clean : (test : ℕ → Bool) → ((b : ℕ) → is_term_byte b ≡ true → test b ≡ true) → (w : List ℕ) → list_all is_term_byte w ≡ true → list_all test w ≡ true
all_clean test passes [] clean = refl
all_clean test passes (b ∷ w) clean =
    let h = and_parts (is_term_byte b) (list_all is_term_byte w) clean in
    and_from (test b) (list_all test w) (passes b h.0) (all_clean test passes w h.1)

-- a byte of a term lies between ( and z
term_byte_within : (b : ℕ) → is_term_byte b ≡ true → (40 ≤ b) × (b ≤ 122)
term_byte_within b is = elim (or_cases (is_word_byte b) _ is) [
  | inl word ↦ elim (or_cases (leb 48 b && leb b 57) _ word) [
    | inl digit ↦ let h = and_parts (leb 48 b) (leb b 57) digit in let low = leb-true 48 b h.0 in let high = leb-true b 57 h.1 in (omega (arith, low), omega (arith, high))
    | inr letter ↦ elim (or_cases (leb 65 b && leb b 90) _ letter) [
      | inl upper ↦ let h = and_parts (leb 65 b) (leb b 90) upper in let low = leb-true 65 b h.0 in let high = leb-true b 90 h.1 in (omega (arith, low), omega (arith, high))
      | inr lower ↦ let h = and_parts (leb 97 b) (leb b 122) lower in let low = leb-true 97 b h.0 in let high = leb-true b 122 h.1 in (omega (arith, low), omega (arith, high))
    ]
  ]
  | inr separator ↦ let h = and_parts (leb 40 b) (leb b 45) separator in let low = leb-true 40 b h.0 in let high = leb-true b 45 h.1 in (omega (arith, low), omega (arith, high))
]

byte_printable : (b : ℕ) → is_term_byte b ≡ true → is_printable b ≡ true
byte_printable b is =
    let h = term_byte_within b is in
    and_from (leb 32 b) (leb b 126) (le-leb 32 b (omega (arith, h.0))) (le-leb b 126 (omega (arith, h.1)))

-- the bytes of a term may stand in a line
pub clean_printable : (w : List ℕ) → list_all is_term_byte w ≡ true → are_printable w ≡ true
clean_printable w clean = all_clean is_printable byte_printable w clean

byte_free : (separator : ℕ) → is_term_byte separator ≡ false → (b : ℕ) → is_term_byte b ≡ true → not (eqb b separator) ≡ true
byte_free separator none b is = elim (cases_Bool (eqb b separator)) [
  | inl same ↦ absurd (both_ways (is_term_byte separator) none (subst (λ (x : ℕ). is_term_byte x ≡ true) (eqb-true b separator same) is))
  | inr other ↦ not_from_false (eqb b separator) other
]

-- a separator that stands in no term parts none
pub clean_free : (separator : ℕ) → is_term_byte separator ≡ false → (w : List ℕ) → list_all is_term_byte w ≡ true → has_none separator w ≡ true
clean_free separator none w clean = all_clean (λ b. not (eqb b separator)) (byte_free separator none) w clean

-- two texts pass where each does
pub all_both : (test : ℕ → Bool) (a b : List ℕ) → list_all test a ≡ true → list_all test b ≡ true → list_all test (a ++ b) ≡ true
all_both test a b p q = list_all-append test a b ∙ and_from (list_all test a) (list_all test b) p q

-- fields pass with their separators
pub all_joined : (test : ℕ → Bool) (separator : ℕ) (ws : List (List ℕ)) → test separator ≡ true → list_all (list_all test) ws ≡ true → list_all test (joined separator ws) ≡ true
all_joined test separator [] passes all = refl
all_joined test separator (w ∷ []) passes all = (and_parts (list_all test w) true all).0
all_joined test separator (w ∷ v ∷ vs) passes all =
    let h = and_parts (list_all test w) (list_all (list_all test) (v ∷ vs)) all in
    all_both test w (separator ∷ joined separator (v ∷ vs)) h.0 (and_from (test separator) (list_all test (joined separator (v ∷ vs))) passes (all_joined test separator (v ∷ vs) passes h.1))

-- an address may stand in a line
pub hex_printable : (n : ℕ) → n < 2 ^ 64 → are_printable (digits 16 false n) ≡ true
hex_printable n lt = clean_printable (digits 16 false n) (hex_clean n lt)

-- so may a decimal number
pub decimal_printable : (n : ℕ) → n < 2 ^ 64 → are_printable (decimal n) ≡ true
decimal_printable n lt = clean_printable (decimal n) (decimal_clean n lt)

-- no separator parts an address
pub hex_free : (separator n : ℕ) → is_term_byte separator ≡ false → n < 2 ^ 64 → has_none separator (digits 16 false n) ≡ true
hex_free separator n none lt = clean_free separator none (digits 16 false n) (hex_clean n lt)

-- nor a decimal number
pub decimal_free : (separator n : ℕ) → is_term_byte separator ≡ false → n < 2 ^ 64 → has_none separator (decimal n) ≡ true
decimal_free separator n none lt = clean_free separator none (decimal n) (decimal_clean n lt)
