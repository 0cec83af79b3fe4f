-- What the normal form of any term is, whatever the order and the coefficients of its pieces.
use Rattle.std.specs.Prelude.{◌%◌, ◌^◌}
use Rattle.sym_terms.specs.Plain.{PlainSum, sum, Summands, none, more, PlainAtom, symbol, fitted, paired, single_atom, IsSymbol}
use Rattle.sym_terms.specs.Normal.{plus, plus_times, fit, pair}

-- the normal form of a term, of the sum of its pieces, and of one atom
abbrev mutual
  pub normal : PlainSum → PlainSum
  normal (sum c xs) = plus (normal_pieces xs) (sum (c % 2 ^ 64) none)

  pub normal_pieces : Summands → PlainSum
  normal_pieces none = sum 0 none
  normal_pieces (more a k xs) = plus_times (normal_pieces xs) k (normal_atom a)

  pub normal_atom : PlainAtom → PlainSum
  normal_atom (symbol s) = single_atom (symbol s)
  normal_atom (fitted f a) = fit f (normal a)
  normal_atom (paired p a b) = pair p (normal a) (normal b)

-- each symbol of a term, of pieces and of an atom is one
abbrev mutual
  pub HasSymbols : PlainSum → Type 0
  HasSymbols (sum c xs) = HaveSymbols xs

  pub HaveSymbols : Summands → Type 0
  HaveSymbols none = Unit {0}
  HaveSymbols (more a k xs) = AtomHasSymbols a × HaveSymbols xs

  pub AtomHasSymbols : PlainAtom → Type 0
  AtomHasSymbols (symbol s) = IsSymbol s
  AtomHasSymbols (fitted f a) = HasSymbols a
  AtomHasSymbols (paired p a b) = HasSymbols a × HasSymbols b
