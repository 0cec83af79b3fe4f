-- What a loop over fields keeps as it writes them.
use Rattle.std.proofs.Common.{ℕ, Bool, true, false, List, [], ◌∷◌}
use Rattle.graph_lines.specs.Words.{joined}

-- what is still to be written of the fields
abbrev pub to_write : Bool → ℕ → List (List ℕ) → List ℕ
to_write first separator [] = []
to_write true separator (w ∷ ws) = joined separator (w ∷ ws)
to_write false separator (w ∷ ws) = separator ∷ joined separator (w ∷ ws)
