-- What a bank of terms is as plain data: a list in which no term stands twice.
use Rattle.std.specs.Prelude.{◌≡◌, ℕ, ◌<◌, ◌≤◌, List, [], ◌∷◌, ◌++◌, length, slice_index_or, if◌then◌else◌}
use Rattle.std.specs.List.{list_any, position_or_len}
use Rattle.sym_terms.specs.Plain.{PlainSum, sum, none}
use Rattle.sym_terms.specs.Equality.{equals}

-- the term of a number; those past the last term are not asked for
abbrev pub term_at : List PlainSum → ℕ → PlainSum
term_at terms n = slice_index_or terms n (sum 0 none)

-- two numbers of terms are equal where the terms are
abbrev pub AreApart : List PlainSum → Type 0
AreApart terms = (m n : ℕ) → m < length terms → n < length terms → term_at terms m ≡ term_at terms n → m ≡ n

-- the place of a term, the first free one where it doesn't stand among them
abbrev pub place_of : List PlainSum → PlainSum → ℕ
place_of terms t = position_or_len (equals t) terms

-- the terms with one more, which comes last where it doesn't stand among them
abbrev pub with_term : List PlainSum → PlainSum → List PlainSum
with_term terms t = if list_any (equals t) terms then terms else terms ++ t ∷ []

-- the second list begins with the first
pub record Grows (old new : List PlainSum) : Type 0 where
  pub longer : length old ≤ length new
  pub same : (n : ℕ) → n < length old → term_at new n ≡ term_at old n
