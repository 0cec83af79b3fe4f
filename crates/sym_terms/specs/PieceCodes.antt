-- What list of numbers stands for pieces, as the logic keeps them. No clause cites this file: it stands here since
-- the types' models do.
use Rattle.std.specs.Prelude.{◌≡◌, ℕ, List, []}
use Rattle.std.specs.Ordering.{nat_cmp}
use Rattle.std.specs.Cmp.{tied_itself}
use Rattle.std.specs.Cmp.Lexicographic.{slice_cmp, nat_list_cmp_total}
use Rattle.std.specs.Coded.{Coded, code_by, coded_list, coded_ℕ, coded×}
use Rattle.std.proofs.Common.{refl, sym, ap, ◌∙◌}
use Rattle.sym_terms.specs.declared.sum.Atom.{Atom}
use Rattle.sym_terms.specs.declared.sum.Atom.TheVariants.{Sym, Fit, Pair}
use Rattle.sym_terms.specs.Plain.{PlainAtom, symbol, fitted, paired}
use Rattle.sym_terms.specs.Order.{atom_cmp}
use Rattle.sym_terms.specs.View.{plain}
use Rattle.sym_terms.specs.Codes.{atom_code, atom_lex, atom_same, then_itself}

-- the atom of the code that is this plain one
abbrev pub atom_of : PlainAtom → Atom
atom_of (symbol s) = Sym s
atom_of (fitted f a) = Fit f a
atom_of (paired p a b) = Pair p a b

-- plain data gives the atom back
pub atom_back : (a : Atom) → atom_of (plain a) ≡ a
atom_back (Sym s) = refl
atom_back (Fit f a) = refl
atom_back (Pair p a b) = refl

-- atoms with one list of numbers are the same
pub atom_code_inj : (a b : PlainAtom) → atom_code a [] ≡ atom_code b [] → a ≡ b
atom_code_inj a b e =
    atom_same a b (sym (then_itself (atom_cmp a b)) ∙ sym (atom_lex a b [] [])
    ∙ ap (λ k. slice_cmp nat_cmp k (atom_code b [])) e ∙ tied_itself nat_list_cmp_total (atom_code b []))

-- how the logic keeps an atom as plain data
abbrev pub coded_plain : Coded PlainAtom
coded_plain = record {
  code = λ a. (coded_list coded_ℕ).code (atom_code a []);
  inj = λ a b e. atom_code_inj a b ((coded_list coded_ℕ).inj _ _ e);
}

-- how it keeps pieces
abbrev pub coded_pieces : Coded (List (Atom × ℕ))
coded_pieces = coded_list (coded× (code_by PlainAtom coded_plain plain atom_of atom_back) coded_ℕ)
