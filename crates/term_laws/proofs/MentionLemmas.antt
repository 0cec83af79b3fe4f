-- The value of a term depends on the symbols that it mentions alone.
use Rattle.std.proofs.Common.{◌≡◌, ◌+◌, ◌*◌, ◌%◌, ◌^◌, Bool, true, false, ◌||◌, refl, ap, ap₂}
use Rattle.std.specs.Ordering.{is_eq}
use Rattle.std.specs.Cmp.{tied_itself}
use Rattle.sym_terms.specs.declared.kinds.Sym.{Sym}
use Rattle.sym_terms.specs.Plain.{PlainSum, sum, Summands, none, more, PlainAtom, symbol, fitted, paired}
use Rattle.sym_terms.specs.Codes.{atom_total}
use Rattle.sym_terms.specs.Mentions.{mentions, mentions_in_pieces, mentions_in_atom}
use Rattle.sym_terms.specs.Numbers.{fit_number, pair_number}
use Rattle.sym_terms.specs.Value.{Valuation, value, value_of_symbol, value_of_pieces, value_of_atom}

-- either truth of two is enough: the first
or_left : (b c : Bool) → b ≡ true → (b || c) ≡ true
or_left true c e = refl
or_left false c e = absurd (cc)

-- and the second
or_right : (b c : Bool) → c ≡ true → (b || c) ≡ true
or_right true c e = refl
or_right false c e = e

module _ (u v : Valuation) where
  mutual
    -- of a term
    pub mentioned_value : (a : PlainSum) → ((s : Sym) → mentions s a ≡ true → value_of_symbol u s ≡ value_of_symbol v s) → value u a ≡ value v a
    mentioned_value (sum c xs) h = ap (λ n. (c + n) % 2 ^ 64) (mentioned_pieces xs h)

    -- of pieces
    mentioned_pieces : (xs : Summands) → ((s : Sym) → mentions_in_pieces s xs ≡ true → value_of_symbol u s ≡ value_of_symbol v s) → value_of_pieces u xs ≡ value_of_pieces v xs
    mentioned_pieces none h = refl
    mentioned_pieces (more a k xs) h =
        ap₂ (λ m n. k * m + n) (mentioned_atom a (λ s e. h s (or_left (mentions_in_atom s a) (mentions_in_pieces s xs) e)))
        (mentioned_pieces xs (λ s e. h s (or_right (mentions_in_atom s a) (mentions_in_pieces s xs) e)))

    -- of one atom
    mentioned_atom : (a : PlainAtom) → ((s : Sym) → mentions_in_atom s a ≡ true → value_of_symbol u s ≡ value_of_symbol v s) → value_of_atom u a ≡ value_of_atom v a
    mentioned_atom (symbol s) h = h s (ap is_eq (tied_itself atom_total (symbol s)))
    mentioned_atom (fitted f a) h = ap (fit_number f) (mentioned_value a h)
    mentioned_atom (paired p a b) h =
        ap₂ (pair_number p) (mentioned_value a (λ s e. h s (or_left (mentions s a) (mentions s b) e))) (mentioned_value b (λ s e. h s (or_right (mentions s a) (mentions s b) e)))
