-- Lists of numbers, ascending, each number once.
use Rattle.std.specs.Prelude.{ℕ, ◌==◌, nat_lt, if◌then◌else◌, List, [], ◌∷◌}

-- an ascending list with one more number
abbrev pub with_number : ℕ → List ℕ → List ℕ
with_number n [] = n ∷ []
with_number n (m ∷ ms) =
    if nat_lt n m then n ∷ m ∷ ms else if n == m then m ∷ ms else m ∷ with_number n ms

-- the numbers of a list, ascending, each once
abbrev pub ascending_of : List ℕ → List ℕ
ascending_of [] = []
ascending_of (n ∷ ns) = with_number n (ascending_of ns)
