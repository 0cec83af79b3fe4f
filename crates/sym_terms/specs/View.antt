-- What the code's atoms and lists of pieces are as plain data, one level at a time.
use Rattle.std.specs.Prelude.{ℕ, zero, suc, ◌*◌, ◌%◌, ◌^◌, List, [], ◌∷◌, ◌++◌}
use Rattle.sym_terms.specs.declared.sum.Atom.{Atom}
use Rattle.sym_terms.specs.declared.sum.Atom.TheVariants.{Sym, Fit, Pair}
use Rattle.sym_terms.specs.Plain.{Summands, none, more, PlainAtom, symbol, fitted, paired}

-- an atom, whose arguments are seen as plain data already
abbrev pub plain : Atom → PlainAtom
plain (Sym s) = symbol s
plain (Fit f a) = fitted f a
plain (Pair p a b) = paired p a b

-- a list of atoms with their coefficients
abbrev pub pieces : List (Atom × ℕ) → Summands
pieces [] = none
pieces (x ∷ xs) = more (plain x.0) x.1 (pieces xs)

-- one piece, or nothing where its coefficient is 0
abbrev pub piece_or_none : Atom → ℕ → List (Atom × ℕ)
piece_or_none a zero = []
piece_or_none a (suc k) = (a, suc k) ∷ []

-- the pieces, each times m, without those whose coefficient is 0
abbrev pub multiples : ℕ → List (Atom × ℕ) → List (Atom × ℕ)
multiples m [] = []
multiples m (x ∷ xs) = piece_or_none x.0 (m * x.1 % 2 ^ 64) ++ multiples m xs
