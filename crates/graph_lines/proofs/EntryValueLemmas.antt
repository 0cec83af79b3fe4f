-- Which sums are one symbol.
use Rattle.std.proofs.Common.{◌≡◌, ℕ, ◌≤◌, false, List, [], ◌∷◌, length, refl, arith}
use Rattle.std.specs.declared.cmp.Ordering.{Ordering}
use Rattle.std.specs.declared.cmp.Ordering.TheVariants.{Less, Equal, Greater}
use Rattle.std.specs.Ordering.{is_eq, ordering_then, nat_cmp}
use Rattle.sym_terms.specs.declared.kinds.Sym.{Sym}
use Rattle.sym_terms.specs.declared.sum.Atom.{Atom}
use Rattle.sym_terms.specs.Plain.{none, more, symbol}
use Rattle.sym_terms.specs.View.{plain, pieces}
use Rattle.sym_terms.specs.Order.{pieces_cmp, atom_cmp}

-- what is greater at the end is never equal
never_equal : (a b : Ordering) → false ≡ is_eq (ordering_then a (ordering_then b Greater))
never_equal Less b = refl
never_equal Equal Less = refl
never_equal Equal Equal = refl
never_equal Equal Greater = refl
never_equal Greater b = refl

-- two pieces or more are no symbol alone
pub many_pieces : (xs : List (Atom × ℕ)) (s : Sym) → 2 ≤ length xs → false ≡ is_eq (pieces_cmp (pieces xs) (more (symbol s) 1 none))
many_pieces [] s le = absurd (omega arith)
many_pieces (x ∷ []) s le = absurd (omega arith)
many_pieces (x ∷ y ∷ ys) s le = never_equal (atom_cmp (plain x.0) (symbol s)) (nat_cmp x.1 1)
