-- How a line is parted, and the bytes that may stand in it.
use Rattle.std.specs.Prelude.{ℕ, Bool, not, ◌&&◌, ◌||◌, ◌==◌, nat_le, if◌then◌else◌, Option, Some, None, List, [], ◌∷◌, ◌++◌, length}
use Rattle.std.specs.List.{list_all}
use Rattle.std.specs.Option.{option_map}
use Rattle.term_text.specs.Bytes.{space, semicolon, equals_sign, open_bracket, close_bracket, open_brace, bar, close_brace, tilde}

-- what stands before the first byte that is the separator, and what stands after it
abbrev pub split_at : ℕ → List ℕ → Option (List ℕ × List ℕ)
split_at separator [] = None
split_at separator (b ∷ bs) =
    if b == separator
    then Some ([], bs)
    else option_map (λ p. (b ∷ p.0, p.1)) (split_at separator bs)

-- one more byte before of the first field
abbrev pub in_first_field : ℕ → List (List ℕ) → List (List ℕ)
in_first_field b [] = (b ∷ []) ∷ []
in_first_field b (w ∷ ws) = (b ∷ w) ∷ ws

-- the fields that a separator parts, one at least
abbrev pub fields : ℕ → List ℕ → List (List ℕ)
fields separator [] = [] ∷ []
fields separator (b ∷ bs) =
    if b == separator then [] ∷ fields separator bs else in_first_field b (fields separator bs)

-- the fields after a separator, none where there is no separator
abbrev pub fields_after : ℕ → Option (List ℕ) → List (List ℕ)
fields_after separator None = []
fields_after separator (Some bytes) = fields separator bytes

-- fields with a separator between them
abbrev pub joined : ℕ → List (List ℕ) → List ℕ
joined separator [] = []
joined separator (w ∷ []) = w
joined separator (w ∷ v ∷ vs) = w ++ separator ∷ joined separator (v ∷ vs)

-- a byte of a line: 20 to 7E
abbrev pub is_printable : ℕ → Bool
is_printable b = nat_le space b && nat_le b tilde

-- bytes that may stand in a line
abbrev pub are_printable : List ℕ → Bool
are_printable bytes = list_all is_printable bytes

-- a byte that ends a term in a line: space, `[`, `]`, `;`, `|`, `=`, `{` or `}`
abbrev pub ends_term : ℕ → Bool
ends_term b =
    (b == space) || ((b == open_bracket) || ((b == close_bracket) || ((b == semicolon)
    || ((b == bar) || ((b == equals_sign) || ((b == open_brace) || (b == close_brace)))))))

-- whether bytes stand at the place of a term
abbrev pub is_term_word : List ℕ → Bool
is_term_word word = not (length word == 0) && list_all (λ b. not (ends_term b)) word
