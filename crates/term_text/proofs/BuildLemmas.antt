-- What is read of words: numbers have 64 bits, and symbols are those of a program.
use Rattle.std.proofs.Common.{◌≡◌, ℕ, ◌+◌, ◌*◌, ◌^◌, ◌<◌, Bool, true, false, ◌&&◌, eqb, ltb, if◌then◌else◌, List, [], ◌∷◌, Option, Some, None, refl, arith, lit<}
use Rattle.std.specs.Prelude.{IfSome}
use Rattle.std.specs.Str.{bytes_eq}
use Rattle.std.specs.Char.{digit_value}
use Rattle.std.specs.List.{AllByRecursion}
use Rattle.std.proofs.lemmas.Bool.{ltb-true}
use Rattle.sym_terms.specs.Plain.{IsSymbol}
use Rattle.term_text.specs.declared.names.Keyword.{Keyword}
use Rattle.term_text.specs.declared.names.Keyword.TheVariants as word
use Rattle.term_text.specs.Numbers.{radix, digits_at, numeral_at, number_at}
use Rattle.term_text.specs.Names.{IsKnown, keywords, name_of, named, keyword_at, as_symbol, as_named, symbol_at}

-- what digits spell
digits_below : (hex : Bool) (n : ℕ) (bytes : List ℕ) → n < 2 ^ 64 → IfSome (digits_at hex n bytes) (λ m. m < 2 ^ 64)
digits_below hex n [] lt = lt
digits_below hex n (byte ∷ bytes) lt = by_digit (ltb (digit_value byte) (radix hex)) (ltb next (2 ^ 64)) refl (λ below. digits_below hex next bytes below)
  where
    next : ℕ
    next = n * radix hex + digit_value byte

    by_digit : (a b : Bool) → ltb next (2 ^ 64) ≡ b
        → (next < 2 ^ 64 → IfSome (digits_at hex next bytes) (λ m. m < 2 ^ 64))
        → IfSome (elim (if a && b then Some next else None) as (λ o. Option ℕ) [ None ↦ None | Some m ↦ digits_at hex m bytes ]) (λ m. m < 2 ^ 64)
    by_digit true true e rest = rest (ltb-true next (2 ^ 64) e)
    by_digit true false e rest = tt
    by_digit false b e rest = tt

-- what a numeral spells
pub numeral_below : (hex : Bool) (bytes : List ℕ) → IfSome (numeral_at hex bytes) (λ m. m < 2 ^ 64)
numeral_below hex [] = tt
numeral_below hex (byte ∷ bytes) = digits_below hex 0 (byte ∷ bytes) (omega arith)

-- what a number spells
pub number_below : (bytes : List ℕ) → IfSome (number_at bytes) (λ m. m < 2 ^ 64)
number_below [] = tt
number_below (a ∷ []) = numeral_below false (a ∷ [])
number_below (a ∷ b ∷ bytes) = by_x (eqb a 48 && eqb b 120)
  where
    by_x : (x : Bool) → IfSome (if x then numeral_at true bytes else numeral_at false (a ∷ b ∷ bytes)) (λ m. m < 2 ^ 64)
    by_x true = numeral_below true bytes
    by_x false = numeral_below false (a ∷ b ∷ bytes)

-- the registers of the keywords are below 16
pub all_known : AllByRecursion IsKnown keywords
all_known = (lit< tt, (lit< tt, (lit< tt, (lit< tt, (lit< tt, (lit< tt, (lit< tt, (lit< tt, (lit< tt, (lit< tt, (lit< tt, (lit< tt, (lit< tt, (lit< tt, (lit< tt, (lit< tt, (tt, (tt, (tt, (tt, (tt, (tt, (tt, (tt, (tt, (tt, (tt, (tt, (tt, (tt, tt))))))))))))))))))))))))))))))

-- so is one that is found
pub named_known : (ks : List Keyword) (w : List ℕ) → AllByRecursion IsKnown ks → IfSome (named ks w) IsKnown
named_known [] w all = tt
named_known (k ∷ ks) w all = by_name (bytes_eq (name_of k) w) (named_known ks w all.1)
  where
    by_name : (b : Bool) → IfSome (named ks w) IsKnown → IfSome (if b then Some k else named ks w) IsKnown
    by_name true rest = all.0
    by_name false rest = rest

-- a symbol that is read
pub symbol_known : (w : List ℕ) → IfSome (symbol_at w) IsSymbol
unfolding symbol_at keyword_at
symbol_known [] = tt
symbol_known (b ∷ w) = by_v (eqb b 118)
  where
    as_known : (o : Option Keyword) → IfSome o IsKnown → IfSome (as_symbol o) IsSymbol
    as_known None is = tt
    as_known (Some (word.Symbol s)) is = is
    as_known (Some (word.Fit f)) is = tt
    as_known (Some (word.Pair p)) is = tt

    as_address : (o : Option ℕ) → IfSome o (λ m. m < 2 ^ 64) → IfSome (as_named o) IsSymbol
    as_address None is = tt
    as_address (Some n) is = is

    by_v : (v : Bool) → IfSome (if v then as_named (numeral_at true w) else as_symbol (named keywords (b ∷ w))) IsSymbol
    by_v true = as_address (numeral_at true w) (numeral_below true w)
    by_v false = as_known (named keywords (b ∷ w)) (named_known keywords (b ∷ w) all_known)
