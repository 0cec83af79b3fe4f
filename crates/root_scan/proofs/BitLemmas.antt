-- The bits of a chunk, of its words, and of a word's bytes.
use Rattle.std.proofs.Common.{◌≡◌, ◌≤◌, ◌<◌, ℕ, zero, suc, ◌+◌, ◌*◌, ◌^◌, List, [], ◌∷◌, length, take, drop, map, refl, sym, ap, ◌∙◌, arith, count_ones, Fits, w64, zero-add}
use lib.Count.{ones_cat}
use Rattle.std.specs.Simd.Lanes.{Each1, number_l, fold_l, sum_l, Steps}
use Rattle.std.proofs.lemmas.Nat.{ones_le_self}
use Rattle.std.proofs.lemmas.Simd.{fold-sum, sum_fits}
use Rattle.std.proofs.lemmas.List.{take-append-drop, length-drop}
use Rattle.std.proofs.lemmas.List.Sums.{sum_by-append, sum_by-cons}
use Rattle.byteorder.specs.Endian.{little_number}
use Rattle.root_scan.specs.Bits.{bits_set}
use Rattle.root_scan.specs.Words.{words_from}
use Rattle.root_scan.proofs.WordLemmas.{words_from-eight}
use Rattle.root_scan.proofs.ChunkLemmas.{Each1-drop}

-- some bytes, and those behind them
bits_set-parts : (n : ℕ) (bytes : List ℕ) → bits_set bytes ≡ bits_set (take n bytes) + bits_set (drop n bytes)
bits_set-parts n bytes = ap (λ bs. bits_set bs) (sym (take-append-drop n bytes)) ∙ sum_by-append count_ones (take n bytes) (drop n bytes)

-- a chunk, and what is behind it
pub bits_set_chunk : (bytes : List ℕ) → bits_set bytes ≡ bits_set (take 64 bytes) + bits_set (drop 64 bytes)
bits_set_chunk bytes = bits_set-parts 64 bytes

-- a number has the bits of its bytes
number_bits : (bytes : List ℕ) → Each1 (λ x. x < 256) bytes → count_ones (number_l 256 bytes) ≡ bits_set bytes
number_bits [] each =
    let none : count_ones 0 ≤ 0 = ones_le_self 0 in
    omega arith
number_bits (x ∷ xs) each =
    let turned : x + 256 * number_l 256 xs ≡ number_l 256 xs * 2 ^ 8 + x = omega arith in
    let apart : count_ones (number_l 256 xs * 2 ^ 8 + x) ≡ count_ones (number_l 256 xs) + count_ones x = ones_cat 8 (number_l 256 xs) x (each.0) in
    let rest : count_ones (number_l 256 xs) ≡ bits_set xs = number_bits xs (each.1) in
    ap (λ n. count_ones n) turned ∙ omega (arith, sum_by-cons count_ones x xs)

-- a word has the bits of its bytes
word_bits : (xs : List ℕ) → 8 ≤ length xs → Each1 (λ x. x < 256) xs → count_ones (little_number 8 xs) ≡ bits_set (take 8 xs)
word_bits (a ∷ b ∷ c ∷ d ∷ e ∷ f ∷ g ∷ h ∷ rest) long each =
    number_bits (a ∷ b ∷ c ∷ d ∷ e ∷ f ∷ g ∷ h ∷ []) (each.0, (each.1.0, (each.1.1.0, (each.1.1.1.0, (each.1.1.1.1.0, (each.1.1.1.1.1.0, (each.1.1.1.1.1.1.0, (each.1.1.1.1.1.1.1.0, tt))))))))
word_bits _ long each = absurd (omega arith)

-- whole words have the bits of their bytes
words_bits : (n : ℕ) (xs : List ℕ) → length xs ≡ 8 * n → Each1 (λ x. x < 256) xs → sum_l (map count_ones (words_from 0 xs)) ≡ bits_set xs
words_bits zero [] whole each = refl
words_bits zero (x ∷ xs) whole each = absurd (omega arith)
words_bits (suc n) xs whole each =
    let long : 8 ≤ length xs = omega arith in
    let fewer : length (drop 8 xs) ≡ 8 * n = omega (arith, length-drop 8 xs) in
    let word : count_ones (little_number 8 xs) ≡ bits_set (take 8 xs) = word_bits xs long each in
    let rest : sum_l (map count_ones (words_from 0 (drop 8 xs))) ≡ bits_set (drop 8 xs) = words_bits n (drop 8 xs) fewer (Each1-drop 8 xs each) in
    let parts : bits_set xs ≡ bits_set (take 8 xs) + bits_set (drop 8 xs) = bits_set-parts 8 xs in
    ap (λ ws. sum_l (map count_ones ws)) (words_from-eight xs long) ∙ omega arith

-- no byte has more bits than its number
bits_set_le : (xs : List ℕ) → Each1 (λ x. x < 256) xs → bits_set xs ≤ 256 * length xs
bits_set_le [] each = omega arith
bits_set_le (x ∷ xs) each =
    let byte : x < 256 = each.0 in
    let few : count_ones x ≤ x = ones_le_self x in
    let rest : bits_set xs ≤ 256 * length xs = bits_set_le xs (each.1) in
    omega (arith, sum_by-cons count_ones x xs)

map-same : (xs : List ℕ) → map (λ x. x) xs ≡ xs
map-same [] = refl
map-same (x ∷ xs) = ap (λ ys. x ∷ ys) (map-same xs)

-- the lanes' bits add up to the chunk's
pub lanes_sum : (xs : List ℕ) → length xs ≡ 64 → Each1 (λ x. x < 256) xs → fold_l (λ s x. s + x) 0 (map (λ x. x) (map count_ones (words_from 0 xs))) ≡ bits_set xs
lanes_sum xs whole each =
    fold-sum 0 (map (λ x. x) (map count_ones (words_from 0 xs)))
    ∙ zero-add (sum_l (map (λ x. x) (map count_ones (words_from 0 xs))))
    ∙ ap (λ ys. sum_l ys) (map-same (map count_ones (words_from 0 xs)))
    ∙ words_bits 8 xs (omega arith) each

-- and their sum fits 64 bits
pub lanes_fit : (xs : List ℕ) → length xs ≡ 64 → Each1 (λ x. x < 256) xs → Steps (λ s x. Fits w64 (s + x)) (λ s x. s + x) 0 (map (λ x. x) (map count_ones (words_from 0 xs)))
lanes_fit xs whole each =
    let sum : sum_l (map (λ x. x) (map count_ones (words_from 0 xs))) ≡ bits_set xs = ap (λ ys. sum_l ys) (map-same (map count_ones (words_from 0 xs))) ∙ words_bits 8 xs (omega arith) each in
    let few : bits_set xs ≤ 256 * length xs = bits_set_le xs each in
    sum_fits w64 0 (map (λ x. x) (map count_ones (words_from 0 xs))) (omega arith)
