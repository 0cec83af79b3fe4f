-- The graph that a text is, or the first faulty line with its first cause.
use Rattle.std.specs.Prelude.{◌≡◌, ℕ, ◌+◌, ◌==◌, nat_lt, if◌then◌else◌, List, [], ◌∷◌, length}
use Rattle.std.specs.declared.result.Result.{Result}
use Rattle.std.specs.declared.result.Result.TheVariants.{Ok, Err}
use Rattle.std.specs.Str.{bytes_eq}
use Rattle.term_text.specs.declared.cause.TextCause.{TextCause}
use Rattle.term_text.specs.declared.cause.TextCause.TheVariants as cause
use Rattle.term_text.specs.Bytes.{line_feed}
use Rattle.graph_data.specs.declared.graph.Graph.{Graph}
use Rattle.graph_lines.specs.Words.{fields}
use Rattle.graph_lines.specs.LineKind.{kind_of_bytes}
use Rattle.graph_lines.specs.LineLimits.{most_line_bytes}
use Rattle.graph_lines.specs.Reading.{and_then, or_bad_line, line_of_kind}
use Rattle.graph_builder.specs.declared.builder.Builder.{Builder}
use Rattle.graph_builder.specs.Partial.{new_builder}
use Rattle.graph_builder.specs.Follow.{can_follow}
use Rattle.graph_builder.specs.Building.{judged, finished}
use Rattle.graph_text.specs.declared.refusal.TextRefusal.{TextRefusal}
use Rattle.graph_text.specs.Text.{head}

-- the first line, which has at most 32,768 bytes
unfoldable pub head_taken : List ℕ → Result Builder TextCause
head_taken bytes =
    if nat_lt most_line_bytes (length bytes) then Err cause.OverLimit
    else (if bytes_eq bytes head then Ok new_builder else Err cause.BadHead)

-- a line after it, first by its kind, then by its form and spelling, then by what is built
unfoldable pub next_taken : Builder → List ℕ → Result Builder TextCause
next_taken b bytes =
    or_bad_line (kind_of_bytes bytes) (λ kind.
    if can_follow b kind
    then and_then (line_of_kind kind bytes) (judged b)
    else Err cause.BadLine)

-- such a line, which has at most 32,768 bytes
unfoldable pub line_taken : Builder → List ℕ → Result Builder TextCause
line_taken b bytes =
    if nat_lt most_line_bytes (length bytes) then Err cause.OverLimit else next_taken b bytes

-- what is after the last line feed: nothing, where the last line was read
unfoldable pub end_taken : Builder → List ℕ → Result Graph TextCause
end_taken b bytes =
    if nat_lt most_line_bytes (length bytes) then Err cause.OverLimit
    else (if length bytes == 0 then finished b else Err cause.Unended)

-- a text without a line feed
abbrev pub headless : List ℕ → Result Graph TextCause
headless bytes =
    if nat_lt most_line_bytes (length bytes) then Err cause.OverLimit else Err cause.Unended

-- what is read next after the line of that number, or its refusal
abbrev pub at_line : {A B : Type 0}
    → ℕ → Result A TextCause → (A → Result B TextRefusal) → Result B TextRefusal
at_line n (Ok x) f = f x
at_line n (Err c) f = Err (record { line = n; cause = c })

-- lines from a number on, and what is after the last line feed
abbrev pub run : ℕ → Builder → List (List ℕ) → Result Graph TextRefusal
run n b [] = at_line n (end_taken b []) Ok
run n b (bytes ∷ []) = at_line n (end_taken b bytes) Ok
run n b (bytes ∷ more ∷ rest) =
    at_line n (line_taken b bytes) (λ c. run (n + 1) c (more ∷ rest))

-- the head, and the lines after it
abbrev pub run_text : List (List ℕ) → Result Graph TextRefusal
run_text [] = at_line 1 (headless []) Ok
run_text (bytes ∷ []) = at_line 1 (headless bytes) Ok
run_text (bytes ∷ more ∷ rest) = at_line 1 (head_taken bytes) (λ b. run 2 b (more ∷ rest))

-- the graph whose text the bytes are, or the first faulty line with its first cause
unfoldable pub graph_at : List ℕ → Result Graph TextRefusal
graph_at text = run_text (fields line_feed text)

-- a refusal is that of the reading, unless memory ran out
abbrev pub Refuses : {Y : Type 0} → TextCause → TextRefusal → Result Y TextRefusal → Type 0
Refuses cause.BadHead refusal read = read ≡ Err refusal
Refuses cause.BadLine refusal read = read ≡ Err refusal
Refuses cause.BadTerm refusal read = read ≡ Err refusal
Refuses cause.NotCanonical refusal read = read ≡ Err refusal
Refuses cause.OutOfOrder refusal read = read ≡ Err refusal
Refuses cause.OverLimit refusal read = read ≡ Err refusal
Refuses cause.Unended refusal read = read ≡ Err refusal
Refuses cause.NoMemory refusal read = refusal.line ≡ 0

-- what was returned is what the reading gives, unless memory ran out
abbrev pub GivesGraph : {Y : Type 0} → Result Y TextRefusal → Result Y TextRefusal → Type 0
GivesGraph (Ok g) read = read ≡ Ok g
GivesGraph (Err e) read = Refuses e.cause e read

-- a line that is refused, by its number; want of memory has line 0
abbrev pub refusal_at : ℕ → TextCause → TextRefusal
refusal_at n cause.BadHead = record { line = n; cause = cause.BadHead }
refusal_at n cause.BadLine = record { line = n; cause = cause.BadLine }
refusal_at n cause.BadTerm = record { line = n; cause = cause.BadTerm }
refusal_at n cause.NotCanonical = record { line = n; cause = cause.NotCanonical }
refusal_at n cause.OutOfOrder = record { line = n; cause = cause.OutOfOrder }
refusal_at n cause.OverLimit = record { line = n; cause = cause.OverLimit }
refusal_at n cause.Unended = record { line = n; cause = cause.Unended }
refusal_at n cause.NoMemory = record { line = 0; cause = cause.NoMemory }
