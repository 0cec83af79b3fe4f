-- Words about lists that the definitions of a graph use.
use Rattle.std.specs.Prelude.{ℕ, ◌<◌, List, [], ◌∷◌, ⊤}

-- a fact of each element
abbrev pub Each : {X : Type 0} → (X → Type 0) → List X → Type 0
Each P [] = ⊤
Each P (x ∷ xs) = P x × Each P xs

-- each number is below the next one
abbrev pub Ascends : List ℕ → Type 0
Ascends [] = ⊤
Ascends (n ∷ []) = ⊤
Ascends (n ∷ m ∷ rest) = (n < m) × Ascends (m ∷ rest)
