-- The words among bytes, taken eight bytes at a time.
use Rattle.std.proofs.Common.{◌≡◌, ◌≤◌, ◌<◌, ℕ, zero, suc, ◌+◌, ◌%◌, ◌-◌, min, ◌==◌, ◌++◌, true, false, List, [], ◌∷◌, length, drop, nat_le, refl, sym, ap, ◌∙◌, arith, add-zero}
use Rattle.std.proofs.lemmas.Grind.{common_steps}
use Rattle.byteorder.specs.Endian.{little_number}
use Rattle.root_scan.specs.Words.{word_at, words_from}

-- a test of equality that fails
differs : (a b : ℕ) → (a ≡ b → ⊥) → (a == b) ≡ false
differs a b ne = grind arith

-- where the address is no multiple of 8, no word begins
no_word : (address : ℕ) (bytes : List ℕ) → (address % 8 ≡ 0 → ⊥) → word_at address bytes ≡ []
no_word address bytes odd = rw (differs (address % 8) 0 odd) refl

-- what lies before the next multiple of 8 has no word
pub words_from-skipped : (k address : ℕ) (bytes : List ℕ) → (address + k) % 8 ≡ 0 → k < 8 → words_from address bytes ≡ words_from (address + k) (drop k bytes)
words_from-skipped zero address bytes aligned small = ap (λ a. words_from a bytes) (sym (add-zero address))
words_from-skipped (suc k) address [] aligned small = refl
words_from-skipped (suc k) address (byte ∷ rest) aligned small =
    let next : (address + 1 + k) % 8 ≡ 0 = omega arith in
    let odd : address % 8 ≡ 0 → ⊥ = λ even. omega arith in
    let here : word_at address (byte ∷ rest) ≡ [] = no_word address (byte ∷ rest) odd in
    let there : words_from (address + 1) rest ≡ words_from (address + 1 + k) (drop k rest) = words_from-skipped k (address + 1) rest next (omega arith) in
    let same : address + 1 + k ≡ address + suc k = omega arith in
    ap (λ ws. ws ++ words_from (address + 1) rest) here ∙ there ∙ ap (λ a. words_from a (drop k rest)) same

-- fewer than eight bytes have no word
pub words_from-short : (address : ℕ) (bytes : List ℕ) → length bytes < 8 → words_from address bytes ≡ []
words_from-short address [] few = refl
words_from-short address (byte ∷ rest) few =
    let no : nat_le 8 (length (byte ∷ rest)) ≡ false = grind arith in
    let none : word_at address (byte ∷ rest) ≡ [] = grind arith in
    ap (λ ws. ws ++ words_from (address + 1) rest) none ∙ words_from-short (address + 1) rest (omega arith)

-- only the address modulo 8 counts
pub words_from-same : (a b : ℕ) (bytes : List ℕ) → a % 8 ≡ b % 8 → words_from a bytes ≡ words_from b bytes
words_from-same a b [] same = refl
words_from-same a b (byte ∷ rest) same =
    let next : (a + 1) % 8 ≡ (b + 1) % 8 = omega arith in
    let word : word_at a (byte ∷ rest) ≡ word_at b (byte ∷ rest) = rw same refl in
    ap (λ ws. ws ++ words_from (a + 1) rest) word ∙ ap (λ ws. word_at b (byte ∷ rest) ++ ws) (words_from-same (a + 1) (b + 1) rest next)

-- eight bytes at a multiple of 8 are a word
pub words_from-eight : (bytes : List ℕ) → 8 ≤ length bytes → words_from 0 bytes ≡ little_number 8 bytes ∷ words_from 0 (drop 8 bytes)
words_from-eight [] long = absurd (omega arith)
words_from-eight (byte ∷ rest) long =
    let yes : nat_le 8 (length (byte ∷ rest)) ≡ true = grind arith in
    let word : word_at 0 (byte ∷ rest) ≡ little_number 8 (byte ∷ rest) ∷ [] = rw yes refl in
    ap (λ ws. ws ++ words_from 1 rest) word ∙ ap (λ ws. little_number 8 (byte ∷ rest) ∷ ws) (words_from-skipped 7 1 rest refl (omega arith) ∙ words_from-same 8 0 (drop 7 rest) refl)

-- no more than all the bytes are dropped
drop-least : (k : ℕ) (bytes : List ℕ) → drop (min k (length bytes)) bytes ≡ drop k bytes
drop-least zero bytes = grind (arith, common_steps)
drop-least (suc k) [] =
    let none : min (suc k) (length {A = ℕ} []) ≡ zero = omega arith in
    ap (λ m. drop {A = ℕ} m []) none
drop-least (suc k) (byte ∷ rest) =
    let same : min (suc k) (length (byte ∷ rest)) ≡ suc (min k (length rest)) = omega arith in
    ap (λ m. drop m (byte ∷ rest)) same ∙ drop-least k rest

-- the words from the first multiple of 8 on are all of them
pub words_from_multiple : (place : ℕ) (bytes : List ℕ) → words_from 0 (drop (min ((8 - place % 8) % 8) (length bytes)) bytes) ≡ words_from place bytes
words_from_multiple place bytes =
    let skipped : ℕ = (8 - place % 8) % 8 in
    let aligned : (place + (8 - place % 8) % 8) % 8 ≡ 0 = omega arith in
    let small : (8 - place % 8) % 8 < 8 = omega arith in
    ap (λ bs. words_from 0 bs) (drop-least skipped bytes)
    ∙ sym (words_from-same (place + skipped) 0 (drop skipped bytes) aligned)
    ∙ sym (words_from-skipped skipped place bytes aligned small)
