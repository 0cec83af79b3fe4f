-- Numbers as words.
use Rattle.std.proofs.Common.{◌≡◌, inl, inr, ℕ, ◌^◌, ◌<◌, ◌≤◌, Bool, true, false, cond, ◌&&◌, List, [], ◌∷◌, length, map, drop, Some, None, refl, sym, ◌∙◌, ap, subst, arith}
use Rattle.std.specs.Prelude.{nat_lt, ◌↔◌}
use Rattle.std.specs.List.{list_all}
use Rattle.std.specs.Char.{digit_value, is_digit}
use Rattle.std.specs.Str.Parse.{AllDigits, IsNumeral, digits_value, without_leading_plus}
use Rattle.std.proofs.lemmas.Bool.{lt-ltb, le-ltb, ltb-true, eqb-true, and_parts, cases_Bool}
use Rattle.foxdec_commands.specs.Words.{begins_with, is_numeral, number_of, addresses_of}

-- two tests that are true
both : (a b : Bool) → a ≡ true → b ≡ true → (a && b) ≡ true
both true b p q = q
both false b p q = absurd (cc)

-- digits as a test and as a fact
digits_test : (base : ℕ) (word : List ℕ) → (list_all (λ c. is_digit c base) word ≡ true) ↔ AllDigits base word
digits_test base [] = (λ e. tt, λ h. refl)
digits_test base (c ∷ rest) =
    let later = digits_test base rest in (
      λ e. let parts = and_parts (is_digit c base) (list_all (λ d. is_digit d base) rest) e in (ltb-true (digit_value c) base parts.0, later.0 parts.1),
      λ h. both (is_digit c base) (list_all (λ d. is_digit d base) rest) (lt-ltb (digit_value c) base h.0) (later.1 h.1),
    )

numeral_test : (base : ℕ) (word : List ℕ) → (is_numeral base word ≡ true) ↔ IsNumeral base word
numeral_test base word =
    let digits = digits_test base word in (
      λ e. let parts = and_parts (nat_lt 0 (length word)) (list_all (λ c. is_digit c base) word) e in (ltb-true 0 (length word) parts.0, digits.0 parts.1),
      λ h. both (nat_lt 0 (length word)) (list_all (λ c. is_digit c base) word) (lt-ltb 0 (length word) h.0) (digits.1 h.1),
    )

-- a word without a plus is parsed as it stands
same_word : (word : List ℕ) → begins_with 43 word ≡ false → without_leading_plus word ≡ word
same_word [] e = refl
same_word (c ∷ rest) e = ap (λ (b : Bool). drop (cond b 1 0) (c ∷ rest)) e

-- what is parsed is the number
pub parsed_ok : (base n : ℕ) (word : List ℕ) → begins_with 43 word ≡ false → (IsNumeral base (without_leading_plus word) × (digits_value base (without_leading_plus word) < 2 ^ 64)) × (n ≡ digits_value base (without_leading_plus word)) → Some n ≡ number_of base word
unfolding number_of
parsed_ok base n word no_plus parsed =
    let P : List ℕ → Type 0 = λ w. (IsNumeral base w × (digits_value base w < 2 ^ 64)) × (n ≡ digits_value base w) in
    let q = subst P (same_word word no_plus) parsed in
    let test : (is_numeral base word && nat_lt (digits_value base word) (2 ^ 64)) ≡ true =
    both (is_numeral base word) (nat_lt (digits_value base word) (2 ^ 64)) ((numeral_test base word).1 q.0.0) (lt-ltb (digits_value base word) (2 ^ 64) q.0.1) in
    ap (λ (k : ℕ). Some k) q.1 ∙ sym (ap (λ (b : Bool). cond b (Some (digits_value base word)) None) test)

-- and where nothing is, there is none
pub parsed_err : (base : ℕ) (word : List ℕ) → begins_with 43 word ≡ false → ((IsNumeral base (without_leading_plus word) × (digits_value base (without_leading_plus word) < 2 ^ 64)) → ⊥) → None ≡ number_of base word
unfolding number_of
parsed_err base word no_plus parsed =
    let P : List ℕ → Type 0 = λ w. (IsNumeral base w × (digits_value base w < 2 ^ 64)) → ⊥ in
    let q : P word = subst P (same_word word no_plus) parsed in
    let test = is_numeral base word && nat_lt (digits_value base word) (2 ^ 64) in
    elim (cases_Bool test) [
      | inl holds ↦
          let parts = and_parts (is_numeral base word) (nat_lt (digits_value base word) (2 ^ 64)) holds in
          absurd (q ((numeral_test base word).0 parts.0, ltb-true (digits_value base word) (2 ^ 64) parts.1))
      | inr fails ↦ sym (ap (λ (b : Bool). cond b (Some (digits_value base word)) None) fails)
    ]

third : (a b c : Bool) → ((a && (false && b)) && c) ≡ false
third true b c = refl
third false b c = refl

-- a word with a plus writes none
pub plus_none : (base : ℕ) (word : List ℕ) → base ≤ 36 → begins_with 43 word ≡ true → None ≡ number_of base word
unfolding number_of
plus_none base [] most e = absurd (cc)
plus_none base (c ∷ rest) most e =
    let is : c ≡ 43 = eqb-true c 43 e in
    let digit : is_digit c base ≡ false = ap (λ (k : ℕ). is_digit k base) is ∙ le-ltb 36 base most in
    let value = digits_value base (c ∷ rest) in
    let others = list_all (λ d. is_digit d base) rest in
    sym (ap (λ (b : Bool). cond ((nat_lt 0 (length (c ∷ rest)) && (b && others)) && nat_lt value (2 ^ 64)) (Some value) None) digit
    ∙ ap (λ (b : Bool). cond b (Some value) None) (third (nat_lt 0 (length (c ∷ rest))) others (nat_lt value (2 ^ 64))))

-- fewer than two words have no address
pub none_behind : {A : Type 0} (text : A → List ℕ) (option : List ℕ) (words : List A) → length words < 2 → addresses_of option (map text words) ≡ []
none_behind text option [] few = refl
none_behind text option (word ∷ []) few = refl
none_behind text option (word ∷ next ∷ words) few = absurd (omega (arith, few))
