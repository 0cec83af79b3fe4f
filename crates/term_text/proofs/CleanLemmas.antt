-- The bytes of a term's text are letters, digits and the six separators, and there is one at least.
use Rattle.std.proofs.Common.{◌≡◌, ℕ, ◌^◌, ◌<◌, Bool, true, false, ◌&&◌, eqb, if◌then◌else◌, List, [], ◌∷◌, ◌++◌, length, refl, ap₂, ◌∙◌, arith}
use Rattle.std.specs.Fmt.{decimal, digits}
use Rattle.std.specs.List.{list_all}
use Rattle.std.proofs.lemmas.List.{length-append}
use Rattle.std.proofs.lemmas.List.Folds.{list_all-append}
use Rattle.sym_terms.specs.Plain.{PlainSum, sum, Summands, none, more, PlainAtom, symbol, fitted, paired}
use Rattle.sym_terms.specs.Normal.{IsNormal, AreNormal, IsNormalAtom, IsTerm}
use Rattle.term_text.specs.Numbers.{number_text}
use Rattle.term_text.specs.Names.{is_word_byte, is_term_byte, fit_name, pair_name}
use Rattle.term_text.specs.Text.{is_negative, magnitude, sign_text, factor_text, constant_text, are_none, sum_text, pieces_text, atom_text}
use Rattle.term_text.proofs.NumberLemmas.{AreWord, hex_word, decimal_word, number_word, number_begins}
use Rattle.term_text.proofs.NameLemmas.{symbol_word, symbol_begins, fit_word, pair_word}
use Rattle.term_text.proofs.PieceLemmas.{magnitude_below}

-- each is a byte of a term
abbrev AreClean : List ℕ → Type 0
AreClean w = list_all is_term_byte w ≡ true

-- a byte of a word is one
word_clean : (b : ℕ) → is_word_byte b ≡ true → is_term_byte b ≡ true
word_clean b h = rw h refl

-- so is each byte of a word
clean_words : (w : List ℕ) → AreWord w → AreClean w
clean_words [] all = refl
clean_words (b ∷ w) all = ap₂ (λ (x y : Bool). x && y) (word_clean b all.0) (clean_words w all.1)

-- and each of two texts in a row
both : (x y : List ℕ) → AreClean x → AreClean y → AreClean (x ++ y)
both x y p q = list_all-append is_term_byte x y ∙ ap₂ (λ (a b : Bool). a && b) p q

-- numbers are words
pub hex_clean : (n : ℕ) → n < 2 ^ 64 → list_all is_term_byte (digits 16 false n) ≡ true
hex_clean n lt = clean_words _ (hex_word n lt)

pub decimal_clean : (n : ℕ) → n < 2 ^ 64 → list_all is_term_byte (decimal n) ≡ true
decimal_clean n lt = clean_words _ (decimal_word n lt)

pub number_clean : (n : ℕ) → n < 2 ^ 64 → list_all is_term_byte (number_text n) ≡ true
number_clean n lt = clean_words _ (number_word n lt)

-- signs
sign_clean : (first : Bool) (k : ℕ) → AreClean (sign_text first k)
sign_clean first k = by_sign first (is_negative k)
  where
    by_sign : (f b : Bool) → AreClean (if b then 45 ∷ [] else (if f then [] else 43 ∷ []))
    by_sign true true = refl
    by_sign true false = refl
    by_sign false true = refl
    by_sign false false = refl

-- a number and its star
factor_clean : (m : ℕ) → m < 2 ^ 64 → AreClean (factor_text m)
factor_clean m lt = by_one (eqb m 1)
  where
    by_one : (b : Bool) → AreClean (if b then [] else number_text m ++ 42 ∷ [])
    by_one true = refl
    by_one false = both (number_text m) (42 ∷ []) (number_clean m lt) refl

-- constants
constant_clean : (first : Bool) (c : ℕ) → c < 2 ^ 64 → AreClean (constant_text first c)
constant_clean true c lt = both (sign_text true c) (number_text (magnitude c)) (sign_clean true c) (number_clean (magnitude c) (magnitude_below c lt))
constant_clean false c lt = by_zero (eqb c 0)
  where
    by_zero : (b : Bool) → AreClean (if b then [] else sign_text false c ++ number_text (magnitude c))
    by_zero true = refl
    by_zero false = both (sign_text false c) (number_text (magnitude c)) (sign_clean false c) (number_clean (magnitude c) (magnitude_below c lt))

mutual
  -- terms, their pieces and atoms
  sum_clean : (a : PlainSum) → IsNormal a → AreClean (sum_text a)
  sum_clean (sum c xs) n = both (pieces_text true xs) (constant_text (are_none xs) c) (pieces_clean true xs n.1) (constant_clean (are_none xs) c n.0)

  pieces_clean : (first : Bool) (xs : Summands) → AreNormal xs → AreClean (pieces_text first xs)
  pieces_clean first none n = refl
  pieces_clean first (more a k xs) n =
      both (sign_text first k ++ (factor_text (magnitude k) ++ atom_text a)) (pieces_text false xs)
      (both (sign_text first k) (factor_text (magnitude k) ++ atom_text a) (sign_clean first k) (both (factor_text (magnitude k)) (atom_text a) (factor_clean (magnitude k) (magnitude_below k n.2)) (atom_clean a n.0)))
      (pieces_clean false xs n.4)

  atom_clean : (a : PlainAtom) → IsNormalAtom a → AreClean (atom_text a)
  atom_clean (symbol s) n = clean_words _ (symbol_word s n)
  atom_clean (fitted f a) n = both (fit_name f) (40 ∷ (sum_text a ++ 41 ∷ [])) (clean_words _ (fit_word f)) (both (sum_text a) (41 ∷ []) (sum_clean a n.0) refl)
  atom_clean (paired p a b) n =
      both (pair_name p) (40 ∷ (sum_text a ++ 44 ∷ (sum_text b ++ 41 ∷ []))) (clean_words _ (pair_word p))
      (both (sum_text a) (44 ∷ (sum_text b ++ 41 ∷ [])) (sum_clean a n.0) (both (sum_text b) (41 ∷ []) (sum_clean b n.1) refl))

-- each byte of a term's text is a letter, a digit or one of the six separators
pub term_clean : (t : PlainSum) → IsTerm t → list_all is_term_byte (sum_text t) ≡ true
term_clean t is = sum_clean t is.normal

-- ---- no term is empty

-- a text with something before it is not empty
left_begins : (x y : List ℕ) → 0 < length x → 0 < length (x ++ y)
left_begins x y h = omega (arith, length-append x y)

-- nor one with something after
right_begins : (x y : List ℕ) → 0 < length y → 0 < length (x ++ y)
right_begins x y h = omega (arith, length-append x y)

-- no atom is empty
atom_begins : (a : PlainAtom) → IsNormalAtom a → 0 < length (atom_text a)
atom_begins (symbol s) n = symbol_begins s n
atom_begins (fitted f a) n = right_begins (fit_name f) (40 ∷ (sum_text a ++ 41 ∷ [])) (omega arith)
atom_begins (paired p a b) n = right_begins (pair_name p) (40 ∷ (sum_text a ++ 44 ∷ (sum_text b ++ 41 ∷ []))) (omega arith)

-- nor is a term, whose last part is a number or an atom
sum_begins : (a : PlainSum) → IsNormal a → 0 < length (sum_text a)
sum_begins (sum c none) n = right_begins (sign_text true c) (number_text (magnitude c)) (number_begins (magnitude c) (magnitude_below c n.0))
sum_begins (sum c (more a k xs)) n =
    let piece = sign_text true k ++ (factor_text (magnitude k) ++ atom_text a) in
    let begins = right_begins (sign_text true k) (factor_text (magnitude k) ++ atom_text a) (right_begins (factor_text (magnitude k)) (atom_text a) (atom_begins a n.1.0)) in
    left_begins (piece ++ pieces_text false xs) (constant_text false c) (left_begins piece (pieces_text false xs) begins)

-- a term's text is not empty
pub term_begins : (t : PlainSum) → IsTerm t → 0 < length (sum_text t)
term_begins t is = sum_begins t is.normal
