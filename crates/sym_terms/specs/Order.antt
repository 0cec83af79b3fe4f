-- What the order of atoms and of terms is.
use Rattle.std.specs.Prelude.{ℕ}
use Rattle.std.specs.declared.cmp.Ordering.{Ordering}
use Rattle.std.specs.declared.cmp.Ordering.TheVariants.{Less, Equal, Greater}
use Rattle.std.specs.Ordering.{ordering_then, nat_cmp}
use Rattle.sym_terms.specs.declared.kinds.Sym.{Sym}
use Rattle.sym_terms.specs.declared.kinds.Sym.TheVariants.{Entry, Ra, FsBase, Named}
use Rattle.sym_terms.specs.declared.kinds.Fit.{Fit}
use Rattle.sym_terms.specs.declared.kinds.Fit.TheVariants.{Zx8, Zx16, Zx32, Sx8, Sx16, Sx32}
use Rattle.sym_terms.specs.declared.kinds.Pair.{Pair}
use Rattle.sym_terms.specs.declared.kinds.Pair.TheVariants.{And, Or, Xor, Mul, Shr, Sar}
use Rattle.sym_terms.specs.Plain.{PlainSum, sum, Summands, none, more, PlainAtom, symbol, fitted, paired}

-- entry registers come first, then the return address, the FS base and named values
abbrev pub sym_rank : Sym → ℕ
sym_rank (Entry r) = 0
sym_rank Ra = 1
sym_rank FsBase = 2
sym_rank (Named a) = 3

-- the register's number, or the address that names a value
abbrev pub sym_number : Sym → ℕ
sym_number (Entry r) = r
sym_number Ra = 0
sym_number FsBase = 0
sym_number (Named a) = a

-- symbols by rank, then by number
abbrev pub sym_cmp : Sym → Sym → Ordering
sym_cmp s t = ordering_then (nat_cmp (sym_rank s) (sym_rank t)) (nat_cmp (sym_number s) (sym_number t))

-- the place of a fit among the fits
abbrev pub fit_rank : Fit → ℕ
fit_rank Zx8 = 0
fit_rank Zx16 = 1
fit_rank Zx32 = 2
fit_rank Sx8 = 3
fit_rank Sx16 = 4
fit_rank Sx32 = 5

-- the place of a pair among the pairs
abbrev pub pair_rank : Pair → ℕ
pair_rank And = 0
pair_rank Or = 1
pair_rank Xor = 2
pair_rank Mul = 3
pair_rank Shr = 4
pair_rank Sar = 5

-- terms by constant, then by their pieces, a prefix first; atoms: symbols, then fits, then pairs
abbrev mutual
  pub sum_cmp : PlainSum → PlainSum → Ordering
  sum_cmp (sum c xs) (sum d ys) = ordering_then (nat_cmp c d) (pieces_cmp xs ys)

  pub pieces_cmp : Summands → Summands → Ordering
  pieces_cmp none none = Equal
  pieces_cmp none (more b l ys) = Less
  pieces_cmp (more a k xs) none = Greater
  pieces_cmp (more a k xs) (more b l ys) =
      ordering_then (atom_cmp a b) (ordering_then (nat_cmp k l) (pieces_cmp xs ys))

  pub atom_cmp : PlainAtom → PlainAtom → Ordering
  atom_cmp (symbol s) (symbol t) = sym_cmp s t
  atom_cmp (symbol s) (fitted g c) = Less
  atom_cmp (symbol s) (paired q c d) = Less
  atom_cmp (fitted f a) (symbol t) = Greater
  atom_cmp (fitted f a) (fitted g c) = ordering_then (nat_cmp (fit_rank f) (fit_rank g)) (sum_cmp a c)
  atom_cmp (fitted f a) (paired q c d) = Less
  atom_cmp (paired p a b) (symbol t) = Greater
  atom_cmp (paired p a b) (fitted g c) = Greater
  atom_cmp (paired p a b) (paired q c d) =
      ordering_then (nat_cmp (pair_rank p) (pair_rank q)) (ordering_then (sum_cmp a c) (sum_cmp b d))
