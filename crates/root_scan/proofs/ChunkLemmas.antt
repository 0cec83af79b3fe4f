-- The words of a chunk, as the lanes have them.
use Rattle.std.proofs.Common.{◌≡◌, ◌≤◌, ◌<◌, ℕ, zero, suc, ◌+◌, ◌*◌, ◌%◌, ◌/◌, ◌++◌, Bool, false, List, [], ◌∷◌, length, take, drop, filter, get_or, refl, sym, ap, ◌∙◌, arith}
use Rattle.std.specs.Simd.Lanes.{Each1, number_l, digits_l}
use Rattle.std.specs.List.{list_any}
use Rattle.std.proofs.lemmas.Grind.{common_steps}
use Rattle.std.proofs.lemmas.List.{append_assoc, append-nil, get_or_append_left, drop-append-le, take-append-drop, length-append, length-drop, length-take}
use Rattle.std.proofs.lemmas.List.Elements.{filter-append}
use Rattle.byteorder.specs.Endian.{little_number, little_from}
use Rattle.root_scan.specs.Words.{words_from}
use Rattle.root_scan.proofs.WordLemmas.{words_from-eight, words_from-short}

-- a number is read from the front of the bytes alone
little_from-append : (n i : ℕ) (xs ys : List ℕ) → i + n ≤ length xs → little_from i n (xs ++ ys) ≡ little_from i n xs
little_from-append zero i xs ys inside = refl
little_from-append (suc n) i xs ys inside =
    let here : get_or (xs ++ ys) i 0 ≡ get_or xs i 0 = get_or_append_left xs ys 0 i (omega arith) in
    let there : little_from (suc i) n (xs ++ ys) ≡ little_from (suc i) n xs = little_from-append n (suc i) xs ys (omega arith) in
    ap (λ a. a + 256 * little_from (suc i) n (xs ++ ys)) here ∙ ap (λ a. get_or xs i 0 + 256 * a) there

-- the words of bytes behind whole words are words of their own
words_from-append : (n : ℕ) (xs ys : List ℕ) → length xs ≡ 8 * n → words_from 0 (xs ++ ys) ≡ words_from 0 xs ++ words_from 0 ys
words_from-append zero [] ys whole = refl
words_from-append zero (x ∷ xs) ys whole = absurd (omega arith)
words_from-append (suc n) xs ys whole =
    let long : 8 ≤ length xs = omega arith in
    let longer : 8 ≤ length (xs ++ ys) = omega (arith, length-append xs ys) in
    let word : little_number 8 (xs ++ ys) ≡ little_number 8 xs = little_from-append 8 0 xs ys long in
    let behind : drop 8 (xs ++ ys) ≡ drop 8 xs ++ ys = drop-append-le 8 xs ys long in
    let fewer : length (drop 8 xs) ≡ 8 * n = omega (arith, length-drop 8 xs) in
    words_from-eight (xs ++ ys) longer
    ∙ ap (λ w. w ∷ words_from 0 (drop 8 (xs ++ ys))) word
    ∙ ap (λ bytes. little_number 8 xs ∷ words_from 0 bytes) behind
    ∙ ap (λ ws. little_number 8 xs ∷ ws) (words_from-append n (drop 8 xs) ys fewer)
    ∙ ap (λ ws. ws ++ words_from 0 ys) (sym (words_from-eight xs long))

-- a chunk's words come first
pub words_from-chunk : (bytes : List ℕ) → 64 ≤ length bytes → words_from 0 bytes ≡ words_from 0 (take 64 bytes) ++ words_from 0 (drop 64 bytes)
words_from-chunk bytes long =
    let whole : length (take 64 bytes) ≡ 8 * 8 = omega (arith, length-take 64 bytes) in
    ap (λ bs. words_from 0 bs) (sym (take-append-drop 64 bytes)) ∙ words_from-append 8 (take 64 bytes) (drop 64 bytes) whole

-- a number of bytes is its first word and the rest
number_l-eight : (xs : List ℕ) → 8 ≤ length xs → number_l 256 xs ≡ little_number 8 xs + 18446744073709551616 * number_l 256 (drop 8 xs)
number_l-eight (a ∷ b ∷ c ∷ d ∷ e ∷ f ∷ g ∷ h ∷ rest) long = omega arith
number_l-eight _ long = absurd (omega arith)

-- a word fits 64 bits
pub little_number_lt : (xs : List ℕ) → 8 ≤ length xs → Each1 (λ x. x < 256) xs → little_number 8 xs < 18446744073709551616
little_number_lt (a ∷ b ∷ c ∷ d ∷ e ∷ f ∷ g ∷ h ∷ rest) long bytes = omega arith
little_number_lt _ long bytes = absurd (omega arith)

pub Each1-drop : (n : ℕ) (xs : List ℕ) → Each1 (λ x. x < 256) xs → Each1 (λ x. x < 256) (drop n xs)
Each1-drop zero xs each = each
Each1-drop (suc n) [] each = each
Each1-drop (suc n) (x ∷ xs) each = Each1-drop n xs (each.1)

-- the lanes of whole words are the words
pub lanes_of_words : (n : ℕ) (xs : List ℕ) → length xs ≡ 8 * n → Each1 (λ x. x < 256) xs → digits_l 18446744073709551616 n (number_l 256 xs) ≡ words_from 0 xs
lanes_of_words zero [] whole bytes = refl
lanes_of_words zero (x ∷ xs) whole bytes = absurd (omega arith)
lanes_of_words (suc n) xs whole bytes =
    let q : ℕ = 18446744073709551616 in
    let long : 8 ≤ length xs = omega arith in
    let word : ℕ = little_number 8 xs in
    let rest : ℕ = number_l 256 (drop 8 xs) in
    let small : little_number 8 xs < 18446744073709551616 = little_number_lt xs long bytes in
    let split : number_l 256 xs ≡ little_number 8 xs + 18446744073709551616 * number_l 256 (drop 8 xs) = number_l-eight xs long in
    let low : number_l 256 xs % 18446744073709551616 ≡ little_number 8 xs = omega arith in
    let high : number_l 256 xs / 18446744073709551616 ≡ number_l 256 (drop 8 xs) = omega arith in
    let fewer : length (drop 8 xs) ≡ 8 * n = omega (arith, length-drop 8 xs) in
    ap (λ w. w ∷ digits_l 18446744073709551616 n (number_l 256 xs / 18446744073709551616)) low
    ∙ ap (λ m. little_number 8 xs ∷ digits_l 18446744073709551616 n m) high
    ∙ ap (λ ws. little_number 8 xs ∷ ws) (lanes_of_words n (drop 8 xs) fewer (Each1-drop 8 xs bytes))
    ∙ sym (words_from-eight xs long)

-- a word is read from its own eight bytes
little_number-take : (xs : List ℕ) → 8 ≤ length xs → little_number 8 (take 8 xs) ≡ little_number 8 xs
little_number-take xs long =
    let inside : 0 + 8 ≤ length (take 8 xs) = omega (arith, length-take 8 xs) in
    sym (little_from-append 8 0 (take 8 xs) (drop 8 xs) inside) ∙ ap (λ bs. little_number 8 bs) (take-append-drop 8 xs)

-- of a word and what is behind it, as the loop over words appends them
pub filtered_word : (p : ℕ → Bool) (found bytes : List ℕ) → 8 ≤ length bytes → (found ++ filter p (little_number 8 (take 8 bytes) ∷ [])) ++ filter p (words_from 0 (drop 8 bytes)) ≡ found ++ filter p (words_from 0 bytes)
filtered_word p found bytes long =
    let word : little_number 8 (take 8 bytes) ≡ little_number 8 bytes = little_number-take bytes long in
    append_assoc found (filter p (little_number 8 (take 8 bytes) ∷ [])) (filter p (words_from 0 (drop 8 bytes)))
    ∙ ap (λ w. found ++ (filter p (w ∷ []) ++ filter p (words_from 0 (drop 8 bytes)))) word
    ∙ ap (λ ws. found ++ ws) (sym (filter-append p (little_number 8 bytes ∷ []) (words_from 0 (drop 8 bytes))))
    ∙ ap (λ ws. found ++ filter p ws) (sym (words_from-eight bytes long))

-- fewer than eight bytes add nothing
pub filtered_short : (p : ℕ → Bool) (found bytes : List ℕ) → length bytes < 8 → found ++ filter p (words_from 0 bytes) ≡ found
filtered_short p found bytes few = ap (λ ws. found ++ filter p ws) (words_from-short 0 bytes few) ∙ append-nil found

-- of a chunk and what is behind it, as the loop over chunks appends them
pub filtered_chunk : (p : ℕ → Bool) (found bytes : List ℕ) → 64 ≤ length bytes → (found ++ filter p (words_from 0 (take 64 bytes))) ++ filter p (words_from 0 (drop 64 bytes)) ≡ found ++ filter p (words_from 0 bytes)
filtered_chunk p found bytes long =
    append_assoc found (filter p (words_from 0 (take 64 bytes))) (filter p (words_from 0 (drop 64 bytes)))
    ∙ ap (λ ws. found ++ ws) (sym (filter-append p (words_from 0 (take 64 bytes)) (words_from 0 (drop 64 bytes))))
    ∙ ap (λ ws. found ++ filter p ws) (sym (words_from-chunk bytes long))

-- nothing passes a filter where nothing passes the test
filter-none : (p : ℕ → Bool) (xs : List ℕ) → list_any p xs ≡ false → filter p xs ≡ []
filter-none p [] none = refl
filter-none p (x ∷ xs) none = grind (arith, common_steps, filter-none p xs)

-- a chunk without such a word adds nothing
pub filtered_none : (p : ℕ → Bool) (found bytes : List ℕ) → 64 ≤ length bytes → list_any p (words_from 0 (take 64 bytes)) ≡ false → found ++ filter p (words_from 0 (drop 64 bytes)) ≡ found ++ filter p (words_from 0 bytes)
filtered_none p found bytes long none =
    ap (λ ws. found ++ (ws ++ filter p (words_from 0 (drop 64 bytes)))) (sym (filter-none p (words_from 0 (take 64 bytes)) none))
    ∙ ap (λ ws. found ++ ws) (sym (filter-append p (words_from 0 (take 64 bytes)) (words_from 0 (drop 64 bytes))))
    ∙ ap (λ ws. found ++ filter p ws) (sym (words_from-chunk bytes long))
