-- What the value of a term is, once its symbols have values.
use Rattle.std.specs.Prelude.{ℕ, ◌+◌, ◌*◌, ◌%◌, ◌^◌, ◌<◌}
use Rattle.sym_terms.specs.declared.kinds.Sym.{Sym}
use Rattle.sym_terms.specs.declared.kinds.Sym.TheVariants.{Entry, Ra, FsBase, Named}
use Rattle.sym_terms.specs.Numbers.{fit_number, pair_number}
use Rattle.sym_terms.specs.Plain.{PlainSum, sum, Summands, none, more, PlainAtom, symbol, fitted, paired}

-- the values of the 16 entry registers by number, of the return address, the FS base, and of the
-- names by address, 0 where an address names nothing
pub record Valuation : Type 0 where
  pub entry : ℕ → ℕ
  pub ra : ℕ
  pub fs : ℕ
  pub named : ℕ → ℕ

-- all of them have 64 bits
pub record IsInRange (u : Valuation) : Type 0 where
  pub entries : (r : ℕ) → r < 16 → u.entry r < 2 ^ 64
  pub return_address : u.ra < 2 ^ 64
  pub fs_base : u.fs < 2 ^ 64
  pub names : (a : ℕ) → u.named a < 2 ^ 64

-- the value of a symbol
abbrev pub value_of_symbol : Valuation → Sym → ℕ
value_of_symbol u (Entry r) = u.entry r
value_of_symbol u Ra = u.ra
value_of_symbol u FsBase = u.fs
value_of_symbol u (Named a) = u.named a

-- the value of a term, modulo 2^64; of its pieces, as a whole number; and of one atom
abbrev mutual
  pub value : Valuation → PlainSum → ℕ
  value u (sum c xs) = (c + value_of_pieces u xs) % 2 ^ 64

  pub value_of_pieces : Valuation → Summands → ℕ
  value_of_pieces u none = 0
  value_of_pieces u (more a k xs) = k * value_of_atom u a + value_of_pieces u xs

  pub value_of_atom : Valuation → PlainAtom → ℕ
  value_of_atom u (symbol s) = value_of_symbol u s
  value_of_atom u (fitted f a) = fit_number f (value u a)
  value_of_atom u (paired p a b) = pair_number p (value u a) (value u b)
