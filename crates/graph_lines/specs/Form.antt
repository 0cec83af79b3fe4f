-- Forms: what bytes of a line may be, and which words stand at the places of terms, from the left; and the
-- forms of the parts of lines.
use Rattle.std.specs.Prelude.{◌≡◌, ℕ, zero, suc, ◌^◌, ◌<◌, ◌==◌, ◌||◌, ◌⊎◌, Bool, true, false, nat_lt, IsTrue, List, [], ◌∷◌, ◌++◌, codes, Option, Some}
use Rattle.mem_forest.specs.Shape.{is_size}
use Rattle.predicates.specs.declared.site.Reason.{Reason}
use Rattle.term_text.specs.Bytes.{comma_byte, bar}
use Rattle.term_text.specs.Names.{register_name}
use Rattle.term_text.specs.Numbers.{numeral_at, number_at}
use Rattle.graph_lines.specs.Words.{is_term_word}
use Rattle.graph_lines.specs.Text.{reason_text}

-- what a form says of the words at the places of terms, and of the bytes
abbrev pub Form : Type 1
Form = List (List ℕ) → List ℕ → Type 0

-- ---- forms in general

-- just these bytes
abbrev pub just : List ℕ → Form
just text words bytes = (words ≡ []) × (bytes ≡ text)

-- one form, and after it another one
infixr 5 ◌before◌
abbrev pub ◌before◌ : Form → Form → Form
(P before Q) words bytes =
    (v : List (List ℕ)) × (w : List (List ℕ)) × (x : List ℕ) × (y : List ℕ)
    × (words ≡ v ++ w) × (bytes ≡ x ++ y) × P v x × Q w y

-- one of two forms
infixr 4 ◌or_else◌
abbrev pub ◌or_else◌ : Form → Form → Form
(P or_else Q) words bytes = P words bytes ⊎ Q words bytes

-- so many separators, with a form before, between and after them
abbrev pub separated : ℕ → Form → ℕ → Form
separated separator P zero = P
separated separator P (suc n) = P before just (separator ∷ []) before separated separator P n

-- one or more, with a separator between them
abbrev pub list_of : ℕ → Form → Form
list_of separator P words bytes = (n : ℕ) × separated separator P n words bytes

-- ---- what stands in lines

-- a number that the digits spell and that passes a test
abbrev pub number_that : (List ℕ → Option ℕ) → (ℕ → Bool) → Form
number_that spelled passes words bytes =
    (words ≡ []) × ((n : ℕ) × (spelled bytes ≡ Some n) × IsTrue (passes n))

-- an address; it and every other number is below 2^64
abbrev pub address : Form
address = number_that (numeral_at true) (λ n. true)

-- a decimal number
abbrev pub decimal_number : Form
decimal_number = number_that (numeral_at false) (λ n. true)

-- a number of a `b` line, which may be hexadecimal after `0x`
abbrev pub any_number : Form
any_number = number_that number_at (λ n. true)

-- a size in bytes
abbrev pub size : Form
size = number_that (numeral_at false) is_size

-- whether so many bits are those of a flag fact
abbrev pub is_width : ℕ → Bool
is_width n = (n == 8) || ((n == 16) || ((n == 32) || (n == 64)))

-- such bits
abbrev pub width : Form
width = number_that (numeral_at false) is_width

-- the place of a term
abbrev pub term : Form
term words bytes = (words ≡ bytes ∷ []) × IsTrue (is_term_word bytes)

-- the place of a term or, where there is just a `?`, of none
abbrev pub term_or_unknown : Form
term_or_unknown words bytes =
    just (codes "?") words bytes ⊎ ((bytes ≡ codes "?" → ⊥) × term words bytes)

-- `[TERM;BYTES]`
abbrev pub region : Form
region = just (codes "[") before term before just (codes ";") before size before just (codes "]")

-- the name of a register
abbrev pub register : Form
register words bytes = (r : ℕ) × (r < 16) × just (register_name r) words bytes

-- `REG=TERM` or `REG=?`
abbrev pub entry : Form
entry = register before just (codes "=") before term_or_unknown

-- `end REASON`
abbrev pub ends : Form
ends words bytes = (reason : Reason) × just (codes "end " ++ reason_text reason) words bytes

-- what is claimed of a site
abbrev pub site_claim : Form
site_claim =
    just (codes "step") or_else just (codes "outside") or_else just (codes "ret")
    or_else (just (codes "call ") before address) or_else ends

-- `LO..HI` or `{N,N}`
abbrev pub values : Form
values =
    (any_number before just (codes "..") before any_number)
    or_else (just (codes "{") before list_of comma_byte any_number before just (codes "}"))

-- `[NAME|NAME;BYTES]`, and `=TERM` or nothing
abbrev pub node : Form
node =
    just (codes "[") before list_of bar term before just (codes ";") before size before just (codes "]")
    before (just [] or_else (just (codes "=") before term))

-- `ADDR:N`
abbrev pub edge : Form
edge = address before just (codes ":") before number_that (numeral_at false) (λ n. nat_lt n (2 ^ 32))
