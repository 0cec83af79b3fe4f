-- The names in a term, and the bytes that they are made of.
use Rattle.std.specs.Prelude.{ℕ, Bool, true, ◌&&◌, ◌||◌, ◌==◌, nat_le, if◌then◌else◌, List, [], ◌∷◌, ◌++◌, get_or, codes, Option, Some, None}
use Rattle.std.specs.Str.{bytes_eq}
use Rattle.sym_terms.specs.declared.kinds.Sym.{Sym}
use Rattle.sym_terms.specs.declared.kinds.Sym.TheVariants.{Entry, Ra, FsBase, Named}
use Rattle.sym_terms.specs.declared.kinds.Fit.{Fit}
use Rattle.sym_terms.specs.declared.kinds.Fit.TheVariants.{Zx8, Zx16, Zx32, Sx8, Sx16, Sx32}
use Rattle.sym_terms.specs.declared.kinds.Pair.{Pair}
use Rattle.sym_terms.specs.declared.kinds.Pair.TheVariants.{And, Or, Xor, Mul, Shr, Sar}
use Rattle.sym_terms.specs.Plain.{IsSymbol}
use Rattle.term_text.specs.declared.names.Keyword.{Keyword}
use Rattle.term_text.specs.declared.names.Keyword.TheVariants as word
use Rattle.term_text.specs.Bytes.{digit_0, digit_9, capital_a, capital_z, letter_a, letter_v, letter_z, open_paren, minus_sign}
use Rattle.term_text.specs.Numbers.{numeral_at}

-- digits and letters of either case
abbrev pub is_word_byte : ℕ → Bool
is_word_byte b =
    (nat_le digit_0 b && nat_le b digit_9)
    || ((nat_le capital_a b && nat_le b capital_z) || (nat_le letter_a b && nat_le b letter_z))

-- what a term is written with: these, and ( ) * + , -, which are neighbours
abbrev pub is_term_byte : ℕ → Bool
is_term_byte b = is_word_byte b || (nat_le open_paren b && nat_le b minus_sign)

-- the 64-bit registers by number (Intel SDM volume 2, table 3-1)
abbrev pub register_names : List (List ℕ)
register_names =
    codes "rax" ∷ codes "rcx" ∷ codes "rdx" ∷ codes "rbx"
    ∷ codes "rsp" ∷ codes "rbp" ∷ codes "rsi" ∷ codes "rdi"
    ∷ codes "r8" ∷ codes "r9" ∷ codes "r10" ∷ codes "r11"
    ∷ codes "r12" ∷ codes "r13" ∷ codes "r14" ∷ codes "r15" ∷ []

-- the name of a register, and nothing where the number is that of none
abbrev pub register_name : ℕ → List ℕ
register_name r = get_or register_names r []

-- the names of fits
abbrev pub fit_name : Fit → List ℕ
fit_name Zx8 = codes "zx8"
fit_name Zx16 = codes "zx16"
fit_name Zx32 = codes "zx32"
fit_name Sx8 = codes "sx8"
fit_name Sx16 = codes "sx16"
fit_name Sx32 = codes "sx32"

-- the names of pairs
abbrev pub pair_name : Pair → List ℕ
pair_name And = codes "and"
pair_name Or = codes "or"
pair_name Xor = codes "xor"
pair_name Mul = codes "mul"
pair_name Shr = codes "shr"
pair_name Sar = codes "sar"

-- a register at entry is its name and `0`; a value that an address names has no fixed name
abbrev pub fixed_name : Sym → List ℕ
fixed_name (Entry r) = register_name r ++ codes "0"
fixed_name Ra = codes "ra"
fixed_name FsBase = codes "fs"
fixed_name (Named address) = []

-- the name of a keyword
abbrev pub name_of : Keyword → List ℕ
name_of (word.Symbol s) = fixed_name s
name_of (word.Fit f) = fit_name f
name_of (word.Pair p) = pair_name p

-- its symbol is one of a program
abbrev pub IsKnown : Keyword → Type 0
IsKnown (word.Symbol s) = IsSymbol s
IsKnown (word.Fit f) = Unit {0}
IsKnown (word.Pair p) = Unit {0}

-- the register at entry
abbrev entry : ℕ → Keyword
entry r = word.Symbol (Entry r)

-- the words with a meaning of their own
abbrev pub keywords : List Keyword
keywords =
    entry 0 ∷ entry 1 ∷ entry 2 ∷ entry 3 ∷ entry 4 ∷ entry 5 ∷ entry 6 ∷ entry 7
    ∷ entry 8 ∷ entry 9 ∷ entry 10 ∷ entry 11 ∷ entry 12 ∷ entry 13 ∷ entry 14 ∷ entry 15
    ∷ word.Symbol Ra ∷ word.Symbol FsBase
    ∷ word.Fit Zx8 ∷ word.Fit Zx16 ∷ word.Fit Zx32 ∷ word.Fit Sx8 ∷ word.Fit Sx16 ∷ word.Fit Sx32
    ∷ word.Pair And ∷ word.Pair Or ∷ word.Pair Xor
    ∷ word.Pair Mul ∷ word.Pair Shr ∷ word.Pair Sar ∷ []

-- the first of these that has the word as its name
abbrev pub named : List Keyword → List ℕ → Option Keyword
named [] w = None
named (k ∷ ks) w = if bytes_eq (name_of k) w then Some k else named ks w

-- the keyword that a word is
unfoldable pub keyword_at : List ℕ → Option Keyword
keyword_at w = named keywords w

-- the symbol of a keyword
abbrev pub as_symbol : Option Keyword → Option Sym
as_symbol None = None
as_symbol (Some (word.Symbol s)) = Some s
as_symbol (Some (word.Fit f)) = None
as_symbol (Some (word.Pair p)) = None

-- the value that an address names
abbrev pub as_named : Option ℕ → Option Sym
as_named None = None
as_named (Some address) = Some (Named address)

-- the symbol that a word is: `v` and an address in hexadecimal, or a keyword
unfoldable pub symbol_at : List ℕ → Option Sym
symbol_at [] = as_symbol (keyword_at [])
symbol_at (b ∷ w) =
    if b == letter_v then as_named (numeral_at true w) else as_symbol (keyword_at (b ∷ w))
