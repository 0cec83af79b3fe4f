-- Which pieces are held, inline or not.
use Rattle.std.specs.Prelude.{ℕ, List, [], ◌∷◌}
use Rattle.sym_terms.specs.declared.sum.Atom.{Atom}
use Rattle.sym_terms.specs.declared.sum.HeldPieces.{HeldPieces}
use Rattle.sym_terms.specs.declared.sum.HeldPieces.TheVariants.{Nothing, One, Several}

-- the pieces as a list
abbrev pub listed : HeldPieces → List (Atom × ℕ)
listed Nothing = []
listed (One x) = x ∷ []
listed (Several xs) = xs
