-- What number a term is hashed by: its constant, mixed with each atom and coefficient in turn.
use Rattle.std.specs.Prelude.{ℕ, ◌+◌, ◌*◌, ◌%◌, ◌^◌}
use Rattle.sym_terms.specs.Order.{sym_rank, sym_number, fit_rank, pair_rank}
use Rattle.sym_terms.specs.Plain.{PlainSum, sum, Summands, none, more, PlainAtom, symbol, fitted, paired}

-- one more number after those that were mixed: an odd factor of 64 bits spreads what is there
abbrev pub mixed : ℕ → ℕ → ℕ
mixed n m = ((n + m) % 2 ^ 64) * 0x9E37_79B9_7F4A_7C15 % 2 ^ 64

-- the number of a term, of pieces after what was mixed before, and of an atom
abbrev mutual
  pub digest : PlainSum → ℕ
  digest (sum c xs) = digest_after c xs

  pub digest_after : ℕ → Summands → ℕ
  digest_after n none = n
  digest_after n (more a k xs) = digest_after (mixed (mixed n (digest_of_atom a)) k) xs

  pub digest_of_atom : PlainAtom → ℕ
  digest_of_atom (symbol s) = mixed (sym_rank s) (sym_number s)
  digest_of_atom (fitted f a) = mixed (4 + fit_rank f) (digest a)
  digest_of_atom (paired p a b) = mixed (mixed (10 + pair_rank p) (digest a)) (digest b)
