-- The steps of the reader that part a line, read its numbers and give the bytes at the places of terms. Which
-- bytes they take is what the forms of `Form` say: nothing else is to be read here.
use Rattle.std.specs.Prelude.{ℕ, ◌^◌, ◌==◌, Bool, true, false, ◌&&◌, nat_lt, if◌then◌else◌, Option, Some, None, List, [], ◌∷◌, codes, drop, take, length}
use Rattle.std.specs.Str.{bytes_eq}
use Rattle.std.specs.List.{list_all}
use Rattle.bits_core.specs.declared.width.Width.{Width}
use Rattle.bits_core.specs.declared.width.Width.TheVariants.{W8, W16, W32, W64}
use Rattle.mem_forest.specs.Shape.{is_size}
use Rattle.predicates.specs.declared.bound.Values.{Values}
use Rattle.predicates.specs.declared.bound.Values.TheVariants.{Range, OneOf}
use Rattle.predicates.specs.declared.site.Reason.{Reason}
use Rattle.predicates.specs.declared.site.Reason.TheVariants.{Unresolved, BadReturn, Unsupported, Stop, Extern}
use Rattle.predicates.specs.declared.site.Kind.{Kind}
use Rattle.predicates.specs.declared.site.Kind.TheVariants.{Step, Call, Outside, Return, End}
use Rattle.term_text.specs.Bind.{◌>>=◌}
use Rattle.term_text.specs.Bytes.{space, dot, comma_byte, colon, semicolon, equals_sign, close_bracket, bar, close_brace}
use Rattle.term_text.specs.Names.{register_name}
use Rattle.term_text.specs.Numbers.{numeral_at, number_at}
use Rattle.graph_lines.specs.declared.line.Line.{Line}
use Rattle.graph_lines.specs.declared.line.Line.TheVariants as line
use Rattle.graph_lines.specs.declared.line.VertexLine.TheVariants as in_vertex
use Rattle.graph_lines.specs.Words.{split_at, fields, is_term_word}

-- the value where a test holds
abbrev pub guard : {A : Type 0} → Bool → A → Option A
guard test x = if test then Some x else None

-- what stands after a fixed word
abbrev pub strip : List ℕ → List ℕ → Option (List ℕ)
strip word bytes = guard (bytes_eq (take (length word) bytes) word) (drop (length word) bytes)

-- an address; it and every other number are below 2^64
abbrev pub hex_at : List ℕ → Option ℕ
hex_at word = numeral_at true word

-- a decimal number
abbrev pub decimal_at : List ℕ → Option ℕ
decimal_at word = numeral_at false word

-- each of a list, where each can be read
abbrev pub each_at : {A : Type 0} → (List ℕ → Option A) → List (List ℕ) → Option (List A)
each_at read [] = Some []
each_at read (w ∷ ws) = read w >>= λ x. each_at read ws >>= λ xs. Some (x ∷ xs)

-- ---- lines without a term

-- `ENTRY BELOW ABOVE`
unfoldable pub function_line : List ℕ → Option Line
function_line rest = do
  a ← split_at space rest
  b ← split_at space a.1
  entry ← hex_at a.0
  below ← decimal_at b.0
  above ← decimal_at b.1
  Some (line.Function entry below above)

-- `ENTRY notcode`
unfoldable pub refused_line : List ℕ → Option Line
refused_line rest = do
  a ← split_at space rest
  entry ← hex_at a.0
  guard (bytes_eq a.1 (codes "notcode")) (line.Refused entry)

-- why nothing is claimed after a site
abbrev pub reason_at : List ℕ → Option Reason
reason_at word =
    if bytes_eq word (codes "unresolved") then Some Unresolved
    else (if bytes_eq word (codes "badreturn") then Some BadReturn
    else (if bytes_eq word (codes "unsupported") then Some Unsupported
    else (if bytes_eq word (codes "stop") then Some Stop
    else (if bytes_eq word (codes "extern") then Some Extern
    else None))))

-- a kind of two words: `call ENTRY` or `end REASON`
abbrev pub long_kind : List ℕ × List ℕ → Option Kind
long_kind words =
    if bytes_eq words.0 (codes "call") then (hex_at words.1 >>= λ entry. Some (Call entry))
    else (if bytes_eq words.0 (codes "end") then (reason_at words.1 >>= λ reason. Some (End reason))
    else None)

-- `step`, `outside`, `ret`, or a kind of two words
unfoldable pub kind_at : List ℕ → Option Kind
kind_at word =
    if bytes_eq word (codes "step") then Some Step
    else (if bytes_eq word (codes "outside") then Some Outside
    else (if bytes_eq word (codes "ret") then Some Return
    else (split_at space word >>= λ words. long_kind words)))

-- `ADDR KIND`
unfoldable pub site_line : List ℕ → Option Line
site_line rest = do
  a ← split_at space rest
  addr ← hex_at a.0
  kind ← kind_at a.1
  Some (line.Site addr kind)

-- `N`
unfoldable pub vertex_line : List ℕ → Option Line
vertex_line rest = decimal_at rest >>= λ n. Some (line.Vertex n)

-- `ADDR:N`, N below 2^32
unfoldable pub edge_at : List ℕ → Option (ℕ × ℕ)
edge_at word = do
  a ← split_at colon word
  addr ← hex_at a.0
  vertex ← decimal_at a.1
  guard (nat_lt vertex (2 ^ 32)) (addr, vertex)

-- one edge at least, spaces between them
unfoldable pub edges_line : List ℕ → Option Line
edges_line rest =
    each_at edge_at (fields space rest) >>= λ out. Some (line.InVertex (in_vertex.Edges out))

-- ---- parts of lines with terms

-- a written size in bytes
abbrev pub size_at : List ℕ → Option ℕ
size_at word = decimal_at word >>= λ n. guard (is_size n) n

-- `TERM;BYTES]` after a `[`, and what stands after: the term's bytes, the size, the rest
unfoldable pub sized_at : List ℕ → Option (List ℕ × (ℕ × List ℕ))
sized_at word = do
  a ← split_at semicolon word
  b ← split_at close_bracket a.1
  size ← size_at b.0
  Some (a.0, (size, b.1))

-- `[TERM;BYTES]`
unfoldable pub region_at : List ℕ → Option (List ℕ × ℕ)
region_at word = do
  inner ← strip (codes "[") word
  parts ← sized_at inner
  guard (is_term_word parts.0 && (length parts.1.1 == 0)) (parts.0, parts.1.0)

-- `REGION REGION`
unfoldable pub regions_at : List ℕ → Option ((List ℕ × ℕ) × (List ℕ × ℕ))
regions_at rest = do
  a ← split_at space rest
  first ← region_at a.0
  second ← region_at a.1
  Some (first, second)

-- the register with the name
abbrev pub register_named : List ℕ → List ℕ → Option ℕ
register_named [] word = None
register_named (r ∷ rs) word =
    if bytes_eq (register_name r) word then Some r else register_named rs word

-- the registers by number
abbrev pub all_registers : List ℕ
all_registers = 0 ∷ 1 ∷ 2 ∷ 3 ∷ 4 ∷ 5 ∷ 6 ∷ 7 ∷ 8 ∷ 9 ∷ 10 ∷ 11 ∷ 12 ∷ 13 ∷ 14 ∷ 15 ∷ []

-- `REG=TERM`: the register and the term's bytes
unfoldable pub given_at : List ℕ → Option (ℕ × List ℕ)
given_at word = do
  a ← split_at equals_sign word
  register ← register_named all_registers a.0
  guard (is_term_word a.1) (register, a.1)

-- one at least, spaces between them
unfoldable pub givens_at : List ℕ → Option (List (ℕ × List ℕ))
givens_at rest = each_at given_at (fields space rest)

-- the width of so many bits
abbrev pub width_of : ℕ → Option Width
width_of n =
    if n == 8 then Some W8
    else (if n == 16 then Some W16
    else (if n == 32 then Some W32 else (if n == 64 then Some W64 else None)))

-- `W TERM TERM`
unfoldable pub fact_at : List ℕ → Option (Width × (List ℕ × List ℕ))
fact_at rest = do
  a ← split_at space rest
  b ← split_at space a.1
  n ← decimal_at a.0
  width ← width_of n
  guard (is_term_word b.0 && is_term_word b.1) (width, (b.0, b.1))

-- numbers in braces, after the `{`
unfoldable pub list_at : List ℕ → Option Values
list_at inner = do
  a ← split_at close_brace inner
  numbers ← each_at number_at (fields comma_byte a.0)
  guard (length a.1 == 0) (OneOf numbers)

-- `LO..HI`
unfoldable pub range_at : List ℕ → Option Values
range_at word = do
  a ← split_at dot word
  high ← strip (codes ".") a.1
  low ← number_at a.0
  most ← number_at high
  Some (Range low most)

-- numbers in braces after a `{`, else a range
abbrev pub values_or : List ℕ → Option (List ℕ) → Option Values
values_or word (Some inner) = list_at inner
values_or word None = range_at word

-- `LO..HI` or `{N,N}`
unfoldable pub values_at : List ℕ → Option Values
values_at word = values_or word (strip (codes "{") word)

-- `TERM VALUES`
unfoldable pub bound_at : List ℕ → Option (List ℕ × Values)
bound_at rest = do
  a ← split_at space rest
  values ← values_at a.1
  guard (is_term_word a.0) (a.0, values)

-- `=TERM`, or nothing
abbrev pub content_at : List ℕ → Option (Option (List ℕ))
content_at [] = Some None
content_at (b ∷ word) = guard ((b == equals_sign) && is_term_word word) (Some word)

-- `[NAME|NAME;BYTES]=TERM` after the dots: the names' bytes, the size, the value's bytes
unfoldable pub node_at : List ℕ → Option (List (List ℕ) × (ℕ × Option (List ℕ)))
node_at rest = do
  inner ← strip (codes "[") rest
  parts ← sized_at inner
  value ← content_at parts.1.1
  guard (list_all is_term_word (fields bar parts.0)) (fields bar parts.0, (parts.1.0, value))
