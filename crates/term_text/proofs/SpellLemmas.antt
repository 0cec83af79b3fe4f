-- What spells a number or a symbol is a word, and the reader takes it as that number or symbol; and what it takes so
-- spells it.
use Rattle.std.proofs.Common.{◌≡◌, ℕ, ◌+◌, ◌*◌, ◌^◌, ◌<◌, ◌≤◌, Bool, true, false, ◌&&◌, eqb, ltb, if◌then◌else◌, List, [], ◌∷◌, length, Option, Some, None, refl, sym, ap, subst, arith}
use Rattle.std.specs.Prelude.{IfSome}
use Rattle.std.specs.Char.{digit_value}
use Rattle.std.specs.Str.{bytes_eq}
use Rattle.std.proofs.lemmas.Bool.{ltb-true, eqb-true}
use Rattle.std.proofs.lemmas.Slice.Eq.{bytes_eq-Decides}
use Rattle.sym_terms.specs.declared.kinds.Sym.{Sym}
use Rattle.sym_terms.specs.declared.kinds.Sym.TheVariants.{Entry, Ra, FsBase, Named}
use Rattle.sym_terms.specs.Plain.{IsSymbol}
use Rattle.term_text.specs.declared.names.Keyword.{Keyword}
use Rattle.term_text.specs.declared.names.Keyword.TheVariants as word
use Rattle.term_text.specs.Numbers.{radix, digits_at, numeral_at, number_at}
use Rattle.term_text.specs.Names.{is_word_byte, IsKnown, keywords, name_of, named, keyword_at, as_symbol, as_named, symbol_at}
use Rattle.term_text.specs.Text.{symbol_text}
use Rattle.term_text.specs.Tree.{SpellsSymbol}
use Rattle.term_text.proofs.NumberLemmas.{AreWord, digit_word}
use Rattle.term_text.proofs.NameLemmas.{symbol_reads, symbol_word, symbol_none, symbol_begins, no_number}
use Rattle.term_text.proofs.BuildLemmas.{all_known, named_known, symbol_known}

-- ---- numbers

-- a digit has at most 16 values
radix_le : (hex : Bool) → radix hex ≤ 16
radix_le true = omega arith
radix_le false = omega arith

-- what is read as digits is a word
digits_word : (hex : Bool) (n m : ℕ) (w : List ℕ) → digits_at hex n w ≡ Some m → AreWord w
digits_word hex n m [] e = tt
digits_word hex n m (c ∷ w) e = by_digit (ltb (digit_value c) (radix hex)) (ltb next (2 ^ 64)) refl (digits_word hex next m w) e
  where
    next : ℕ
    next = n * radix hex + digit_value c

    by_digit : (a b : Bool) → ltb (digit_value c) (radix hex) ≡ a → (digits_at hex next w ≡ Some m → AreWord w)
        → (elim (if a && b then Some next else None) as (λ o. Option ℕ) [ None ↦ None | Some k ↦ digits_at hex k w ]) ≡ Some m
        → AreWord (c ∷ w)
    by_digit true true i rest e = (digit_word c (omega (arith, ltb-true (digit_value c) (radix hex) i, radix_le hex)), rest e)
    by_digit true false i rest e = absurd (cc)
    by_digit false b i rest e = absurd (cc)

-- what is read as a numeral is a word, and not empty
pub numeral_word : (hex : Bool) (w : List ℕ) (n : ℕ) → numeral_at hex w ≡ Some n → AreWord w × (0 < length w)
numeral_word hex [] n e = absurd (cc)
numeral_word hex (c ∷ w) n e = (digits_word hex 0 n (c ∷ w) e, omega arith)

-- so is what is read as a number
pub number_is_word : (w : List ℕ) (n : ℕ) → number_at w ≡ Some n → AreWord w × (0 < length w)
number_is_word [] n e = absurd (cc)
number_is_word (a ∷ []) n e = numeral_word false (a ∷ []) n e
number_is_word (a ∷ b ∷ w) n e = by_x (eqb a 48) (eqb b 120) refl refl e
  where
    by_x : (x y : Bool) → eqb a 48 ≡ x → eqb b 120 ≡ y
        → (if x && y then numeral_at true w else numeral_at false (a ∷ b ∷ w)) ≡ Some n → AreWord (a ∷ b ∷ w) × (0 < length (a ∷ b ∷ w))
    by_x true true i j e =
        let z : is_word_byte a ≡ true = subst (λ c. is_word_byte c ≡ true) (sym (eqb-true a 48 i)) refl in
        let x : is_word_byte b ≡ true = subst (λ c. is_word_byte c ≡ true) (sym (eqb-true b 120 j)) refl in
        ((z, (x, (numeral_word true w n e).0)), omega arith)
    by_x true false i j e = numeral_word false (a ∷ b ∷ w) n e
    by_x false y i j e = numeral_word false (a ∷ b ∷ w) n e

-- ---- symbols

-- the word is taken as the symbol
pub record IsTakenAs (s : Sym) (w : List ℕ) : Type 0 where
  pub word : AreWord w
  pub begins : 0 < length w
  pub none : number_at w ≡ None
  pub reads : symbol_at w ≡ Some s

-- the text of a symbol
text_taken : (s : Sym) → IsSymbol s → IsTakenAs s (symbol_text s)
text_taken s is = record { word = symbol_word s is; begins = symbol_begins s is; none = symbol_none s is; reads = symbol_reads s is }

-- `v` and an address
named_taken : (address : ℕ) (w : List ℕ) → numeral_at true w ≡ Some address → IsTakenAs (Named address) (118 ∷ w)
unfolding symbol_at
named_taken address w e =
    record { word = (refl, (numeral_word true w address e).0); begins = omega arith; none = no_number w; reads = ap as_named e }

-- what spells a symbol
pub symbol_taken_as : (s : Sym) (w : List ℕ) → SpellsSymbol s w → IsTakenAs s w
symbol_taken_as (Entry r) w h = subst (IsTakenAs (Entry r)) (sym h.1) (text_taken (Entry r) h.0)
symbol_taken_as Ra w h = subst (IsTakenAs Ra) (sym h) (text_taken Ra tt)
symbol_taken_as FsBase w h = subst (IsTakenAs FsBase) (sym h) (text_taken FsBase tt)
symbol_taken_as (Named address) w h =
    let e : w ≡ 118 ∷ h.1 = rw (h.2, h.3) refl in
    subst (IsTakenAs (Named address)) (sym e) (named_taken address h.1 h.4)

-- it is one of a program
pub spelled_known : (s : Sym) (w : List ℕ) → SpellsSymbol s w → IsSymbol s
spelled_known s w h = subst (λ o. IfSome o IsSymbol) (symbol_taken_as s w h).reads (symbol_known w)

-- a keyword that is found has the word as its name
named_is : (ks : List Keyword) (w : List ℕ) → IfSome (named ks w) (λ k. w ≡ name_of k)
named_is [] w = tt
named_is (k ∷ ks) w = by_name (bytes_eq (name_of k) w) refl (named_is ks w)
  where
    by_name : (b : Bool) → bytes_eq (name_of k) w ≡ b → IfSome (named ks w) (λ k. w ≡ name_of k)
        → IfSome (if b then Some k else named ks w) (λ k. w ≡ name_of k)
    by_name true e rest = sym ((bytes_eq-Decides (name_of k) w).0 e)
    by_name false e rest = rest

-- the keyword that a word is has it as its name
pub keyword_is : (w : List ℕ) → IfSome (keyword_at w) (λ k. w ≡ name_of k)
unfolding keyword_at
keyword_is w = named_is keywords w

-- what is read as a symbol spells it
pub symbol_back : (w : List ℕ) (s : Sym) → symbol_at w ≡ Some s → SpellsSymbol s w
unfolding symbol_at keyword_at
symbol_back [] s e = absurd (cc)
symbol_back (b ∷ w) s e = by_v (eqb b 118) refl e
  where
    by_numeral : (o : Option ℕ) → b ≡ 118 → numeral_at true w ≡ o → as_named o ≡ Some s → SpellsSymbol s (b ∷ w)
    by_numeral None v i e = absurd (cc)
    by_numeral (Some address) v i e =
        let same : Named address ≡ s = cc in
        subst (λ x. SpellsSymbol x (b ∷ w)) same (118 ∷ [], w, ap (λ (c : ℕ). c ∷ w) v, refl, i)

    of_symbol : (x : Sym) → IsSymbol x → b ∷ w ≡ name_of (word.Symbol x) → SpellsSymbol x (b ∷ w)
    of_symbol (Entry r) known is = (known, is)
    of_symbol Ra known is = is
    of_symbol FsBase known is = is
    of_symbol (Named address) known is = absurd (cc)

    by_keyword : (o : Option Keyword) → IfSome o (λ k. b ∷ w ≡ name_of k) → IfSome o IsKnown → as_symbol o ≡ Some s
        → SpellsSymbol s (b ∷ w)
    by_keyword None is known e = absurd (cc)
    by_keyword (Some (word.Symbol x)) is known e =
        let same : x ≡ s = cc in
        subst (λ x. SpellsSymbol x (b ∷ w)) same (of_symbol x known is)
    by_keyword (Some (word.Fit f)) is known e = absurd (cc)
    by_keyword (Some (word.Pair p)) is known e = absurd (cc)

    by_v : (v : Bool) → eqb b 118 ≡ v
        → (if v then as_named (numeral_at true w) else as_symbol (named keywords (b ∷ w))) ≡ Some s → SpellsSymbol s (b ∷ w)
    by_v true i e = by_numeral (numeral_at true w) (eqb-true b 118 i) refl e
    by_v false i e = by_keyword (named keywords (b ∷ w)) (named_is keywords (b ∷ w)) (named_known keywords (b ∷ w) all_known) e
