-- How many registers are known.
use Rattle.std.specs.Prelude.{ℕ, ◌+◌, Option, List, [], ◌∷◌, is_some}
use Rattle.std.specs.Int.{from_bool}
use Rattle.sym_terms.specs.Plain.{PlainSum}

-- the number of known registers
abbrev pub known_among : List (Option PlainSum) → ℕ
known_among [] = 0
known_among (r ∷ rs) = from_bool (is_some r) + known_among rs
