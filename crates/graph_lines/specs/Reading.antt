-- The line that bytes are, or the first cause why they are none: their form, their terms from the left,
-- their spelling.
use Rattle.std.specs.Prelude.{◌≡◌, ◌↔◌, ◌⊎◌, ◌<◌, ◌^◌, ℕ, if◌then◌else◌, Some, List, [], ◌∷◌, length, drop}
use Rattle.std.specs.declared.result.Result.{Result}
use Rattle.std.specs.declared.result.Result.TheVariants.{Ok, Err}
use Rattle.sym_terms.specs.Plain.{PlainSum}
use Rattle.term_text.specs.declared.cause.TextCause.{TextCause}
use Rattle.term_text.specs.declared.cause.TextCause.TheVariants.{BadHead, BadLine, BadTerm, NotCanonical, OutOfOrder, OverLimit, Unended, NoMemory}
use Rattle.term_text.specs.Reading.{IsTextOf, IsTermReading}
use Rattle.graph_data.specs.Parts.{Each}
use Rattle.graph_lines.specs.declared.line.Line.{Line}
use Rattle.graph_lines.specs.declared.line_kind.LineKind.{LineKind}
use Rattle.graph_lines.specs.Words.{are_printable}
use Rattle.graph_lines.specs.Line.{IsLine}
use Rattle.graph_lines.specs.Text.{line_text}
use Rattle.graph_lines.specs.LineKind.{kind_of_bytes}
use Rattle.graph_lines.specs.LineForm.{HasForm}
pub use Rattle.graph_lines.specs.Then.{and_then, or_bad_line}
use Rattle.graph_lines.specs.Steps.{loose_line, spelled}

-- the word is the text of a term
abbrev pub IsTermText : List ℕ → Type 0
IsTermText word = (t : PlainSum) × IsTextOf t word

-- the first of the words that is the text of no term is so for this cause
abbrev pub IsFirstFault : TextCause → List (List ℕ) → Type 0
IsFirstFault cause [] = ⊥
IsFirstFault cause (word ∷ words) =
    IsTermReading word (Err cause) ⊎ (IsTermText word × IsFirstFault cause words)

-- the bytes don't have the form of the kind, with whatever words at the places of terms
abbrev pub HasNoForm : LineKind → List ℕ → Type 0
HasNoForm kind bytes = (words : List (List ℕ)) → HasForm kind words bytes → ⊥

-- they have it, and a word is at fault
abbrev pub HasFault : TextCause → LineKind → List ℕ → Type 0
HasFault cause kind bytes =
    (words : List (List ℕ)) × HasForm kind words bytes × IsFirstFault cause words

-- they have it with texts of terms, and are the text of no line
abbrev pub IsMisspelled : LineKind → List ℕ → Type 0
IsMisspelled kind bytes =
    (words : List (List ℕ)) × HasForm kind words bytes × Each IsTermText words
    × ((l : Line) → IsLine l → bytes ≡ line_text l → ⊥)

-- the line whose text the bytes are, or the first cause why they are none
abbrev pub IsLineReading : LineKind → List ℕ → Result Line TextCause → Type 0
IsLineReading kind bytes (Ok l) = IsLine l × (bytes ≡ line_text l)
IsLineReading kind bytes (Err BadLine) = HasNoForm kind bytes
IsLineReading kind bytes (Err BadTerm) = HasFault BadTerm kind bytes
IsLineReading kind bytes (Err OverLimit) = HasFault OverLimit kind bytes
IsLineReading kind bytes (Err NotCanonical) = HasFault NotCanonical kind bytes ⊎ IsMisspelled kind bytes
IsLineReading kind bytes (Err BadHead) = ⊥
IsLineReading kind bytes (Err OutOfOrder) = ⊥
IsLineReading kind bytes (Err Unended) = ⊥
IsLineReading kind bytes (Err NoMemory) = ⊥

-- IsLineReading as a function, to be read by `LineOfKindLaw` alone
unfoldable pub line_of_kind : LineKind → List ℕ → Result Line TextCause
line_of_kind kind bytes =
    if are_printable bytes
    then and_then (loose_line kind (drop 2 bytes)) (spelled bytes)
    else Err BadLine

-- the function gives the one reading of bytes of that kind, as many as a slice may have
abbrev pub LineOfKindLaw : Type 0
LineOfKindLaw =
    (kind : LineKind) (bytes : List ℕ) (read : Result Line TextCause)
    → kind_of_bytes bytes ≡ Some kind → length bytes < 2 ^ 64
    → (line_of_kind kind bytes ≡ read) ↔ IsLineReading kind bytes read

-- the line that the bytes are
unfoldable pub line_at : List ℕ → Result Line TextCause
line_at bytes = or_bad_line (kind_of_bytes bytes) (λ kind. line_of_kind kind bytes)
