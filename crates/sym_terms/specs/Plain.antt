-- What a symbolic term is as plain data: a constant, and atoms with their coefficients.
use Rattle.std.specs.Prelude.{ℕ, ◌<◌, ◌^◌, ◌==◌, ◌&&◌, if◌then◌else◌, Option, Some, None}
use Rattle.sym_terms.specs.declared.kinds.Sym.{Sym}
use Rattle.sym_terms.specs.declared.kinds.Sym.TheVariants.{Entry, Ra, FsBase, Named}
use Rattle.sym_terms.specs.declared.kinds.Fit.{Fit}
use Rattle.sym_terms.specs.declared.kinds.Pair.{Pair}

mutual
  -- `sum c xs` is the constant c and the pieces xs
  pub data PlainSum : Type 0 where
    sum : (constant : ℕ) → (pieces : Summands) → PlainSum

  -- pieces, each an atom times its coefficient
  pub data Summands : Type 0 where
    none : Summands
    more : (atom : PlainAtom) → (coefficient : ℕ) → (rest : Summands) → Summands

  -- a symbol, a fit of a term, or a pair of two terms
  pub data PlainAtom : Type 0 where
    symbol : Sym → PlainAtom
    fitted : Fit → PlainSum → PlainAtom
    paired : Pair → PlainSum → PlainSum → PlainAtom

-- the constant where there is no atom
abbrev pub constant_alone : PlainSum → Option ℕ
constant_alone (sum c none) = Some c
constant_alone (sum c (more a k xs)) = None

-- the symbol that an atom is
abbrev pub symbol_of : PlainAtom → Option Sym
symbol_of (symbol s) = Some s
symbol_of (fitted f a) = None
symbol_of (paired p a b) = None

-- the symbol that a term is: one atom, with coefficient 1 and constant 0
abbrev pub symbol_alone : PlainSum → Option Sym
symbol_alone (sum c none) = None
symbol_alone (sum c (more a k none)) = if (c == 0) && (k == 1) then symbol_of a else None
symbol_alone (sum c (more a k (more b l xs))) = None

-- the term that is one atom
abbrev pub single_atom : PlainAtom → PlainSum
single_atom a = sum 0 (more a 1 none)

-- the number of an entry symbol is that of a register, and an address has 64 bits
abbrev pub IsSymbol : Sym → Type 0
IsSymbol (Entry r) = r < 16
IsSymbol Ra = Unit {0}
IsSymbol FsBase = Unit {0}
IsSymbol (Named a) = a < 2 ^ 64
