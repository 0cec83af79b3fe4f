-- Lists of bytes, the numbers that they are, and what a stage of reading takes from their start.
use Rattle.std.proofs.Common.{◌≡◌, ℕ, zero, suc, ◌+◌, ◌*◌, ◌/◌, ◌%◌, ◌^◌, ◌<◌, ◌≤◌, Bool, true, false, cond, ltb, List, [], ◌∷◌, ◌++◌, length, get_or, take, drop, Option, Some, None, refl, sym, ap, subst, ◌∙◌, append_assoc, arith, inl, inr}
use Rattle.std.proofs.Math.Nat.{pow-suc, pow-le-pow_right}
use Rattle.std.proofs.lemmas.Bool.{cases_lt, ltb-false, le-ltb}
use Rattle.std.proofs.lemmas.List.{take_at, drop_at, take-append-drop, length-append, length-take, get_or-drop, get_or-take, get_or_past}
use Rattle.x86_spelling.specs.Fields.{little}
use Rattle.x86_decode.specs.Reading.{◌>>=◌, value, little_at}

-- each element is a byte
abbrev pub IsBytes : List ℕ → Type 0
IsBytes bytes = (i : ℕ) → get_or bytes i 0 < 256

-- so are those after the first
pub bytes_after : (b : ℕ) (bytes : List ℕ) → IsBytes (b ∷ bytes) → IsBytes bytes
bytes_after b bytes fits i = fits (suc i)

-- and those after a prefix
pub bytes_dropped : (n : ℕ) (bytes : List ℕ) → IsBytes bytes → IsBytes (drop n bytes)
bytes_dropped n bytes fits i = rw get_or-drop (fits (n + i))

-- and those of a prefix
pub bytes_taken : (n : ℕ) (bytes : List ℕ) → IsBytes bytes → IsBytes (take n bytes)
bytes_taken n bytes fits i =
    elim (cases_lt i n) [
      | inl lt ↦ rw (get_or-take n bytes i 0 lt) (fits i)
      | inr le ↦ rw (get_or_past (take n bytes) i 0 (omega (arith, length-take n bytes))) (omega arith)
    ]

-- a stage that gave a value, and another after it, were both passed
pub both_passed : {A B : Type 0} (r : Option A) (f : A → Option B) (y : B) → (r >>= f) ≡ Some y → (x : A) × (r ≡ Some x) × (f x ≡ Some y)
both_passed (Some x) f y e = (x, refl, e)
both_passed None f y e = absurd cc

abbrev given : {A : Type 0} → A → Option A
given x = Some x

-- one answer gives one value
pub same_given : {A : Type 0} (x y : A) → given x ≡ given y → x ≡ y
same_given x y e = cc

-- a test before a value was passed
pub test_passed : {A : Type 0} (b : Bool) (x y : A) → cond b (Some x) None ≡ Some y → (b ≡ true) × (x ≡ y)
test_passed true x y e = (refl, cc)
test_passed false x y e = absurd cc

-- a test that refuses was not met
pub test_missed : {A : Type 0} (b : Bool) (x y : A) → cond b None (Some x) ≡ Some y → (b ≡ false) × (x ≡ y)
test_missed true x y e = absurd cc
test_missed false x y e = (refl, cc)

-- what a stage took stood before the rest
pub record Takes (bytes text rest : List ℕ) : Type 0 where
  pub parts : bytes ≡ text ++ rest
  pub rest_fits : IsBytes rest

-- two stages, one after the other, take both texts
pub takes_both : (a x b y c : List ℕ) → Takes a x b → Takes b y c → Takes a (x ++ y) c
takes_both a x b y c first then = record {
  parts = first.parts ∙ ap (λ (t : List ℕ). x ++ t) then.parts ∙ sym (append_assoc x y c);
  rest_fits = then.rest_fits;
}

-- a number is written in as many bytes as are asked for
pub length-little : (k n : ℕ) → length (little k n) ≡ k
length-little zero n = refl
length-little (suc k) n = ap suc (length-little k (n / 256))

-- a number that fits its bytes is read from them
pub value-little : (k n : ℕ) → n < 256 ^ k → value (little k n) ≡ n
value-little zero n lt = omega arith
value-little (suc k) n lt =
    let power = pow-suc 256 k in
    rw (value-little k (n / 256) (omega (arith, power))) (omega arith)

-- the bytes of the number that bytes are, are those bytes
pub little-value : (bytes : List ℕ) → IsBytes bytes → little (length bytes) (value bytes) ≡ bytes
little-value [] fits = refl
little-value (b ∷ bytes) fits =
    let byte : b < 256 = fits 0 in
    let low : (b + 256 * value bytes) % 256 ≡ b = omega arith in
    let high : (b + 256 * value bytes) / 256 ≡ value bytes = omega arith in
    rw (low, high, little-value bytes (bytes_after b bytes fits)) refl

-- the number that bytes are fits them
pub value_below : (bytes : List ℕ) → IsBytes bytes → value bytes < 256 ^ length bytes
value_below [] fits = omega arith
value_below (b ∷ bytes) fits =
    let byte : b < 256 = fits 0 in
    omega (arith, pow-suc 256 (length bytes), value_below bytes (bytes_after b bytes fits))

-- at most seven bytes are a number below 2^56
pub value_small : (bytes : List ℕ) → IsBytes bytes → length bytes ≤ 7 → value bytes < 2 ^ 56
value_small bytes fits le =
    let power : 256 ^ length bytes ≤ 256 ^ 7 = pow-le-pow_right (omega arith) le in
    omega (arith, power, value_below bytes fits)

-- a number that is read comes first, in its bytes
pub little_takes : (n : ℕ) (bytes : List ℕ) (x : ℕ × List ℕ) → IsBytes bytes → little_at n bytes ≡ Some x → Takes bytes (little n x.0) x.1 × (x.0 < 256 ^ n)
unfolding little_at
little_takes n bytes x fits e =
    let test = test_missed (ltb (length bytes) n) (value (take n bytes), drop n bytes) x e in
    let long : n ≤ length bytes = ltb-false _ _ test.0 in
    let len : length (take n bytes) ≡ n = omega (arith, length-take n bytes) in
    let taken = bytes_taken n bytes fits in
    let same : little n (value (take n bytes)) ≡ take n bytes = subst (λ (k : ℕ). little k (value (take n bytes)) ≡ take n bytes) len (little-value (take n bytes) taken) in
    let below : value (take n bytes) < 256 ^ n = subst (λ (k : ℕ). value (take n bytes) < 256 ^ k) len (value_below (take n bytes) taken) in
    let takes : Takes bytes (little n (value (take n bytes))) (drop n bytes) = record {
      parts = rw same (sym (take-append-drop n bytes));
      rest_fits = bytes_dropped n bytes fits;
    } in
    subst (λ (y : ℕ × List ℕ). Takes bytes (little n y.0) y.1 × (y.0 < 256 ^ n)) test.1 (takes, below)

-- a number that comes first is read, whatever follows it
pub little_again : (n v : ℕ) (rest : List ℕ) → v < 256 ^ n → little_at n (little n v ++ rest) ≡ Some (v, rest)
unfolding little_at
little_again n v rest lt =
    let len = length-little n v in
    let long : ltb (length (little n v ++ rest)) n ≡ false = le-ltb _ _ (omega (arith, length-append (little n v) rest)) in
    rw (long, take_at (little n v) rest n len, drop_at (little n v) rest n len, value-little n v lt) refl
