-- The lanes within two numbers, by one subtraction and one comparison.
use Rattle.std.proofs.Common.{◌≡◌, ◌≤◌, ◌<◌, ℕ, zero, suc, ◌+◌, ◌-◌, ◌*◌, ◌%◌, ◌^◌, Bool, not, cond, List, [], ◌∷◌, length, replicate, map, nat_eq, ltb, drop, subst, refl, sym, ap, ◌∙◌, arith, w64}
use Rattle.std.specs.List.{list_any}
use Rattle.std.specs.Simd.Lanes.{Each1, zip2, mask_l, top}
use Rattle.std.proofs.lemmas.Grind.{common_steps}
use Rattle.std.proofs.lemmas.List.{length-drop}
use Rattle.std.proofs.lemmas.Simd.{bitmask_splat, zip2_splat, length-zip2, map-map}
use Rattle.root_scan.specs.Words.{is_within, words_from}
use Rattle.root_scan.proofs.WordLemmas.{words_from-eight}
use Rattle.root_scan.proofs.ChunkLemmas.{Each1-drop, little_number_lt}

-- the difference modulo 2^64
abbrev pub above : ℕ → ℕ → ℕ
above lo word = (word + (18446744073709551616 - lo)) % 18446744073709551616

-- a mask is 0 exactly where no lane passes
mask_any : (p : ℕ → Bool) (xs : List ℕ) → not (nat_eq (mask_l (map p xs)) 0) ≡ list_any p xs
mask_any p [] = refl
mask_any p (x ∷ xs) = grind (arith, common_steps, mask_any p xs)

-- a word is within exactly where its difference from the lower one is below that of the upper one
within_above : (lo hi word : ℕ) → lo < 18446744073709551616 → hi < 18446744073709551616 → word < 18446744073709551616 → ltb (above lo word) (hi - lo) ≡ is_within lo hi word
within_above lo hi word lo_fits hi_fits word_fits = grind arith

any_within : (lo hi : ℕ) (words : List ℕ) → lo < 18446744073709551616 → hi < 18446744073709551616 → Each1 (λ w. w < 18446744073709551616) words → list_any (λ w. ltb (above lo w) (hi - lo)) words ≡ list_any (is_within lo hi) words
any_within lo hi [] lo_fits hi_fits fit = refl
any_within lo hi (w ∷ words) lo_fits hi_fits fit =
    let here : ltb (above lo w) (hi - lo) ≡ is_within lo hi w = within_above lo hi w lo_fits hi_fits (fit.0) in
    let there : list_any (λ v. ltb (above lo v) (hi - lo)) words ≡ list_any (is_within lo hi) words = any_within lo hi words lo_fits hi_fits (fit.1) in
    cc

-- whole words fit 64 bits
words_fit : (n : ℕ) (xs : List ℕ) → length xs ≡ 8 * n → Each1 (λ x. x < 256) xs → (length (words_from 0 xs) ≡ n) × Each1 (λ w. w < 18446744073709551616) (words_from 0 xs)
words_fit zero [] whole each = (refl, tt)
words_fit zero (x ∷ xs) whole each = absurd (omega arith)
words_fit (suc n) xs whole each =
    let long : 8 ≤ length xs = omega arith in
    let fewer : length (drop 8 xs) ≡ 8 * n = omega (arith, length-drop 8 xs) in
    let rest = words_fit n (drop 8 xs) fewer (Each1-drop 8 xs each) in
    let P : List ℕ → Type 0 = λ ws. (length ws ≡ suc n) × Each1 (λ w. w < 18446744073709551616) ws in
    subst P (sym (words_from-eight xs long)) (omega (arith, rest.0), (little_number_lt xs long each, rest.1))

-- what the lanes of a chunk are asked
pub lanes_within : (xs : List ℕ) (lo hi : ℕ) → length xs ≡ 64 → Each1 (λ x. x < 256) xs → lo < 2 ^ 64 → hi < 2 ^ 64 → not (nat_eq (mask_l (map (top 63) (zip2 (λ a b. cond (ltb a b) (2 ^ 64 - 1) 0) (zip2 (λ a b. (a + (2 ^ 64 - b)) % 2 ^ 64) (words_from 0 xs) (replicate 8 lo)) (replicate 8 (hi - lo)))) % 2 ^ 64) 0) ≡ list_any (is_within lo hi) (words_from 0 xs)
lanes_within xs lo hi whole each lo_fits hi_fits =
    let fit = words_fit 8 xs (omega arith) each in
    let words : List ℕ = words_from 0 xs in
    let lanes : List ℕ = zip2 (λ a b. (a + (2 ^ 64 - b)) % 2 ^ 64) words (replicate 8 lo) in
    let are : lanes ≡ map (above lo) words = zip2_splat (λ a b. (a + (2 ^ 64 - b)) % 2 ^ 64) words 8 lo (fit.0) in
    let eight : length lanes ≡ 8 = length-zip2 (λ a b. (a + (2 ^ 64 - b)) % 2 ^ 64) words (replicate 8 lo) (fit.0) ∙ fit.0 in
    ap (λ m. not (nat_eq m 0)) (bitmask_splat w64 ltb lanes 8 (hi - lo) eight (omega arith))
    ∙ ap (λ ws. not (nat_eq (mask_l (map (λ x. ltb x (hi - lo)) ws)) 0)) are
    ∙ ap (λ ms. not (nat_eq (mask_l ms) 0)) (map-map (λ x. ltb x (hi - lo)) (above lo) words)
    ∙ mask_any (λ w. ltb (above lo w) (hi - lo)) words
    ∙ any_within lo hi words lo_fits hi_fits (fit.1)
