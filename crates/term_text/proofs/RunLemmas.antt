-- The parser goes over the bytes one by one.
use Rattle.std.proofs.Common.{◌≡◌, ℕ, ◌+◌, ◌-◌, ◌<◌, ◌≤◌, true, false, List, [], ◌∷◌, ◌++◌, length, get_or, take, drop, Option, Some, refl, sym, ap, ◌∙◌, arith, add-one}
use Rattle.std.proofs.Math.Seq.{drop-cons}
use Rattle.std.proofs.lemmas.List.{take_more, get_or-drop, length-drop}
use Rattle.term_text.specs.declared.parser.OpenCall.{OpenCall}
use Rattle.term_text.specs.declared.parser.TermParser.{TermParser}
use Rattle.term_text.specs.Names.{is_word_byte}
use Rattle.term_text.specs.Bind.{◌>>=◌}
use Rattle.term_text.specs.Parser.{run, step, last_of, with_first}

-- what was pushed is the last
pub last_of_push : (fs : List OpenCall) (f : OpenCall) → last_of (fs ++ f ∷ []) ≡ Some (fs, f)
last_of_push [] f = refl
last_of_push (g ∷ fs) f = ap (with_first g) (last_of_push fs f)

-- the byte at i, and those after it
next_at : (bytes : List ℕ) (i : ℕ) → i < length bytes → drop i bytes ≡ get_or bytes i 0 ∷ drop (i + 1) bytes
next_at bytes i lt = rw (add-one, drop-cons bytes i 0 lt) refl

-- a word with the byte at i
word_more : (bytes : List ℕ) (begin i : ℕ) → begin ≤ i → i < length bytes
    → take (i + 1 - begin) (drop begin bytes) ≡ take (i - begin) (drop begin bytes) ++ get_or bytes i 0 ∷ []
word_more bytes begin i le lt =
    let k : i + 1 - begin ≡ (i - begin) + 1 = omega arith in
    let j : begin + (i - begin) ≡ i = omega arith in
    let e = take_more (drop begin bytes) (i - begin) 0 (omega (arith, length-drop begin bytes)) in
    let g : get_or (drop begin bytes) (i - begin) 0 ≡ get_or bytes i 0 = get_or-drop begin bytes (i - begin) 0 ∙ ap (λ (n : ℕ). get_or bytes n 0) j in
    ap (λ (n : ℕ). take n (drop begin bytes)) k ∙ e ∙ ap (λ (x : ℕ). take (i - begin) (drop begin bytes) ++ x ∷ []) g

-- a byte of a word is collected
pub run_word : (m : TermParser) (w bs : List ℕ) (b : ℕ) → is_word_byte b ≡ true → run m w (b ∷ bs) ≡ run m (w ++ b ∷ []) bs
run_word m w bs b e = rw e refl

-- a separator takes the word
pub run_separator : (m : TermParser) (w bs : List ℕ) (b : ℕ) → is_word_byte b ≡ false
    → run m w (b ∷ bs) ≡ (step m w b >>= λ n. run n [] bs)
run_separator m w bs b e = rw e refl

-- the loop goes over a byte of a word
pub goes_on : (m : TermParser) (bytes : List ℕ) (begin i : ℕ) (all : Option TermParser) → begin ≤ i → i < length bytes
    → is_word_byte (get_or bytes i 0) ≡ true
    → run m (take (i - begin) (drop begin bytes)) (drop i bytes) ≡ all
    → run m (take (i + 1 - begin) (drop begin bytes)) (drop (i + 1) bytes) ≡ all
goes_on m bytes begin i all le lt e h =
    ap (λ (w : List ℕ). run m w (drop (i + 1) bytes)) (word_more bytes begin i le lt)
    ∙ sym (run_word m (take (i - begin) (drop begin bytes)) (drop (i + 1) bytes) (get_or bytes i 0) e)
    ∙ ap (run m (take (i - begin) (drop begin bytes))) (sym (next_at bytes i lt)) ∙ h

-- the loop goes over a separator
pub steps_on : (m n : TermParser) (bytes : List ℕ) (begin i : ℕ) (all : Option TermParser) → begin ≤ i → i < length bytes
    → is_word_byte (get_or bytes i 0) ≡ false
    → Some n ≡ step m (take (i - begin) (drop begin bytes)) (get_or bytes i 0)
    → run m (take (i - begin) (drop begin bytes)) (drop i bytes) ≡ all
    → run n (take (i + 1 - (i + 1)) (drop (i + 1) bytes)) (drop (i + 1) bytes) ≡ all
steps_on m n bytes begin i all le lt e s h =
    let z : i + 1 - (i + 1) ≡ 0 = omega arith in
    rw z (ap (λ o. o >>= λ n. run n [] (drop (i + 1) bytes)) s
    ∙ sym (run_separator m (take (i - begin) (drop begin bytes)) (drop (i + 1) bytes) (get_or bytes i 0) e)
    ∙ ap (run m (take (i - begin) (drop begin bytes))) (sym (next_at bytes i lt)) ∙ h)
