-- What it is for a symbol to stand in a term, at whatever depth.
use Rattle.std.specs.Prelude.{Bool, false, ◌||◌}
use Rattle.std.specs.Ordering.{is_eq}
use Rattle.sym_terms.specs.declared.kinds.Sym.{Sym}
use Rattle.sym_terms.specs.Order.{sym_cmp}
use Rattle.sym_terms.specs.Plain.{PlainSum, sum, Summands, none, more, PlainAtom, symbol, fitted, paired}

-- whether a symbol stands in a term, in pieces and in one atom
abbrev mutual
  pub mentions : Sym → PlainSum → Bool
  mentions s (sum c xs) = mentions_in_pieces s xs

  pub mentions_in_pieces : Sym → Summands → Bool
  mentions_in_pieces s none = false
  mentions_in_pieces s (more a k xs) = mentions_in_atom s a || mentions_in_pieces s xs

  pub mentions_in_atom : Sym → PlainAtom → Bool
  mentions_in_atom s (symbol t) = is_eq (sym_cmp s t)
  mentions_in_atom s (fitted f a) = mentions s a
  mentions_in_atom s (paired p a b) = mentions s a || mentions s b
