-- A term's text has at most 40 bytes for each node.
use Rattle.std.proofs.Common.{ℕ, ◌+◌, ◌*◌, ◌^◌, ◌<◌, ◌≤◌, Bool, true, false, eqb, if◌then◌else◌, List, [], ◌∷◌, ◌++◌, length, arith}
use Rattle.std.proofs.lemmas.List.{length-append}
use Rattle.sym_terms.specs.Plain.{PlainSum, sum, Summands, none, more, PlainAtom, symbol, fitted, paired}
use Rattle.sym_terms.specs.Nodes.{nodes, nodes_of_pieces, nodes_of_atom}
use Rattle.sym_terms.specs.Normal.{IsNormal, AreNormal, IsNormalAtom, IsTerm}
use Rattle.term_text.specs.Numbers.{number_text}
use Rattle.term_text.specs.Names.{fit_name, pair_name}
use Rattle.term_text.specs.Text.{is_negative, magnitude, sign_text, factor_text, constant_text, are_none, sum_text, pieces_text, atom_text}
use Rattle.term_text.proofs.NumberLemmas.{number_short}
use Rattle.term_text.proofs.NameLemmas.{symbol_short, fit_short, pair_short}
use Rattle.term_text.proofs.PieceLemmas.{magnitude_below}

-- a sign: one byte at most
sign_short : (first : Bool) (k : ℕ) → length (sign_text first k) ≤ 1
sign_short first k = by_sign first (is_negative k)
  where
    by_sign : (f b : Bool) → length {A = ℕ} (if b then 45 ∷ [] else (if f then [] else 43 ∷ [])) ≤ 1
    by_sign true true = omega arith
    by_sign true false = omega arith
    by_sign false true = omega arith
    by_sign false false = omega arith

-- a number and a star: 19 at most
factor_short : (m : ℕ) → m < 2 ^ 64 → length (factor_text m) ≤ 19
factor_short m lt = by_one (eqb m 1)
  where
    by_one : (b : Bool) → length {A = ℕ} (if b then [] else number_text m ++ 42 ∷ []) ≤ 19
    by_one true = omega arith
    by_one false = omega (arith, length-append (number_text m) (42 ∷ []), number_short m lt)

-- a sign and a number: 19 at most
signed_short : (first : Bool) (c : ℕ) → c < 2 ^ 64 → length (sign_text first c ++ number_text (magnitude c)) ≤ 19
signed_short first c lt = omega (arith, length-append (sign_text first c) (number_text (magnitude c)), sign_short first c, number_short (magnitude c) (magnitude_below c lt))

-- a constant
constant_short : (first : Bool) (c : ℕ) → c < 2 ^ 64 → length (constant_text first c) ≤ 19
constant_short true c lt = signed_short true c lt
constant_short false c lt = by_zero (eqb c 0)
  where
    by_zero : (b : Bool) → length {A = ℕ} (if b then [] else sign_text false c ++ number_text (magnitude c)) ≤ 19
    by_zero true = omega arith
    by_zero false = signed_short false c lt

-- a piece: its sign and factor, 20 at most, and its atom
piece_short : (first : Bool) (k : ℕ) (t : List ℕ) → k < 2 ^ 64
    → length (sign_text first k ++ (factor_text (magnitude k) ++ t)) ≤ 20 + length t
piece_short first k t lt =
    let f = factor_text (magnitude k) in
    omega (arith, length-append (sign_text first k) (f ++ t), length-append f t, sign_short first k, factor_short (magnitude k) (magnitude_below k lt))

mutual
  -- terms, their pieces and atoms
  sum_short : (a : PlainSum) → IsNormal a → length (sum_text a) ≤ 40 * nodes a
  sum_short (sum c xs) n =
      omega (arith, length-append (pieces_text true xs) (constant_text (are_none xs) c), pieces_short true xs n.1, constant_short (are_none xs) c n.0)

  pieces_short : (first : Bool) (xs : Summands) → AreNormal xs → length (pieces_text first xs) ≤ 40 * nodes_of_pieces xs
  pieces_short first none n = omega arith
  pieces_short first (more a k xs) n =
      let piece = sign_text first k ++ (factor_text (magnitude k) ++ atom_text a) in
      omega (arith, length-append piece (pieces_text false xs), piece_short first k (atom_text a) n.2, atom_short a n.0, pieces_short false xs n.4)

  atom_short : (a : PlainAtom) → IsNormalAtom a → length (atom_text a) + 20 ≤ 40 * nodes_of_atom a
  atom_short (symbol s) n = omega (arith, symbol_short s n)
  atom_short (fitted f a) n =
      let inside = sum_text a ++ 41 ∷ [] in
      omega (arith, length-append (fit_name f) (40 ∷ inside), length-append (sum_text a) (41 ∷ []), fit_short f, sum_short a n.0)
  atom_short (paired p a b) n =
      let right = sum_text b ++ 41 ∷ [] in
      let inside = sum_text a ++ 44 ∷ right in
      omega (arith, length-append (pair_name p) (40 ∷ inside), length-append (sum_text a) (44 ∷ right), length-append (sum_text b) (41 ∷ []), pair_short p, sum_short a n.0, sum_short b n.1)

-- at most 40 bytes for each of its nodes, of which there are at most 32
pub term_short : (t : PlainSum) → IsTerm t → length (sum_text t) ≤ 40 * nodes t
term_short t is = sum_short t is.normal
