-- A list of pieces at an index: one more, none left, and two lists side by side.
use Rattle.std.proofs.Common.{◌≡◌, ℕ, zero, suc, ◌+◌, ◌<◌, ◌≤◌, true, false, List, [], ◌∷◌, length, drop, None, refl, sym, ap, ap₂, ◌∙◌, slice_index_or, min, arith}
use Rattle.std.proofs.lemmas.List.{drop_more, drop_all}
use Rattle.std.specs.declared.cmp.Ordering.{Ordering}
use Rattle.std.specs.declared.cmp.Ordering.TheVariants.{Less, Equal, Greater}
use Rattle.std.specs.Ordering.{ordering_then, is_ne, nat_cmp, MatchOrdering}
use Rattle.std.specs.Cmp.{nat_cmp_is}
use Rattle.sym_terms.specs.declared.sum.Atom.{Atom}
use Rattle.sym_terms.specs.Plain.{sum, none, more, constant_alone, symbol_alone}
use Rattle.sym_terms.specs.Nodes.{nodes_of_pieces, nodes_of_atom}
use Rattle.sym_terms.specs.Order.{pieces_cmp, atom_cmp}
use Rattle.sym_terms.specs.View.{plain, pieces}
use Rattle.sym_terms.specs.declared.kinds.Fit.{Fit}
use Rattle.sym_terms.specs.Normal.{fit_is_identity}

-- the pieces from an index on are the one there and those after it
pub pieces_at : (xs : List (Atom × ℕ)) (i : ℕ) (x : Atom × ℕ)
    → x ≡ slice_index_or xs i x → i < length xs → pieces (drop i xs) ≡ more (plain x.0) x.1 (pieces (drop (i + 1) xs))
pieces_at xs i x e h = ap pieces (drop_more xs i x h ∙ ap (λ y. y ∷ drop (i + 1) xs) (sym e))

-- past the end there are none
pub pieces_end : (xs : List (Atom × ℕ)) (i : ℕ) → length xs ≤ i → pieces (drop i xs) ≡ none
pieces_end xs i h = ap pieces (drop_all i xs h)

-- a list that isn't empty is no constant
pub not_alone : (c : ℕ) (xs : List (Atom × ℕ)) → (xs ≡ [] → false ≡ true) → None ≡ constant_alone (sum c (pieces xs))
not_alone c [] h = let e = h refl in absurd (cc)
not_alone c (x ∷ xs) h = refl

-- one more on both sides changes no comparison of lengths
one_longer : (o : Ordering) (m n : ℕ)
    → MatchOrdering o (m < n) (m ≡ n) (n < m) → MatchOrdering o (suc m < suc n) (suc m ≡ suc n) (suc n < suc m)
one_longer Less m n h = omega arith
one_longer Equal m n h = omega arith
one_longer Greater m n h = omega arith

-- where one list has ended, the shorter one comes first
ended_lengths : (xs ys : List (Atom × ℕ)) (n : ℕ) → n ≡ min (length xs) (length ys)
    → MatchOrdering (pieces_cmp (pieces (drop n xs)) (pieces (drop n ys))) (length xs < length ys) (length xs ≡ length ys) (length ys < length xs)
ended_lengths [] [] zero e = refl
ended_lengths [] [] (suc n) e = refl
ended_lengths [] (y ∷ ys) zero e = omega arith
ended_lengths [] (y ∷ ys) (suc n) e = absurd (omega arith)
ended_lengths (x ∷ xs) [] zero e = omega arith
ended_lengths (x ∷ xs) [] (suc n) e = absurd (omega arith)
ended_lengths (x ∷ xs) (y ∷ ys) zero e = absurd (omega arith)
ended_lengths (x ∷ xs) (y ∷ ys) (suc n) e = one_longer _ (length xs) (length ys) (ended_lengths xs ys n (omega arith))

-- the order where one list has ended is that of the lengths
pub one_ended : (xs ys : List (Atom × ℕ)) (n : ℕ) → n ≡ min (length xs) (length ys)
    → pieces_cmp (pieces (drop n xs)) (pieces (drop n ys)) ≡ nat_cmp (length xs) (length ys)
one_ended xs ys n e = nat_cmp_is (length xs) (length ys) _ (ended_lengths xs ys n e)

-- a pair of pieces that differ decides
decides : (x y rest : Ordering) → is_ne (ordering_then x y) ≡ true → ordering_then x (ordering_then y rest) ≡ ordering_then x y
decides Less y rest e = refl
decides Equal Less rest e = refl
decides Equal Equal rest e = absurd (cc)
decides Equal Greater rest e = refl
decides Greater y rest e = refl

-- a pair of equal pieces leaves it to the rest
defers : (x y rest : Ordering) → is_ne (ordering_then x y) ≡ false → ordering_then x (ordering_then y rest) ≡ rest
defers Less y rest e = absurd (cc)
defers Equal Less rest e = absurd (cc)
defers Equal Equal rest e = refl
defers Equal Greater rest e = absurd (cc)
defers Greater y rest e = absurd (cc)

module _ (xs ys : List (Atom × ℕ)) (i : ℕ) (x y : Atom × ℕ) (at_x : x ≡ slice_index_or xs i x) (in_x : i < length xs) (at_y : y ≡ slice_index_or ys i y) (in_y : i < length ys) where
  -- the order of the pieces at an index
  abbrev here : Ordering
  here = ordering_then (atom_cmp (plain x.0) (plain y.0)) (nat_cmp x.1 y.1)

  -- the order from an index on is that of the two pieces, then of the rest
  heads : pieces_cmp (pieces (drop i xs)) (pieces (drop i ys))
      ≡ ordering_then (atom_cmp (plain x.0) (plain y.0)) (ordering_then (nat_cmp x.1 y.1) (pieces_cmp (pieces (drop (i + 1) xs)) (pieces (drop (i + 1) ys))))
  heads = ap₂ pieces_cmp (pieces_at xs i x at_x in_x) (pieces_at ys i y at_y in_y)

  -- it is decided at this index
  pub decided_at : (o : Ordering) → o ≡ here → is_ne o ≡ true → o ≡ pieces_cmp (pieces (drop i xs)) (pieces (drop i ys))
  decided_at o e h = e ∙ sym (decides (atom_cmp (plain x.0) (plain y.0)) (nat_cmp x.1 y.1) _ (ap is_ne (sym e) ∙ h)) ∙ sym heads

  -- it is left to the rest
  pub deferred_at : (o : Ordering) → o ≡ here → is_ne o ≡ false
      → pieces_cmp (pieces (drop (i + 1) xs)) (pieces (drop (i + 1) ys)) ≡ pieces_cmp (pieces (drop i xs)) (pieces (drop i ys))
  deferred_at o e h = sym (defers (atom_cmp (plain x.0) (plain y.0)) (nat_cmp x.1 y.1) _ (ap is_ne (sym e) ∙ h)) ∙ sym heads

-- two pieces don't stay under a fit
pub two_pieces : (f : Fit) (c : ℕ) (xs : List (Atom × ℕ)) → 2 ≤ length xs → false ≡ fit_is_identity f (sum c (pieces xs))
two_pieces f c [] h = refl
two_pieces f c (x ∷ []) h = absurd (omega arith)
two_pieces f c (x ∷ y ∷ ys) h = refl

-- two pieces are no symbol
pub two_atoms : (c : ℕ) (xs : List (Atom × ℕ)) → 2 ≤ length xs → None ≡ symbol_alone (sum c (pieces xs))
two_atoms c [] h = absurd (omega arith)
two_atoms c (x ∷ []) h = absurd (omega arith)
two_atoms c (x ∷ y ∷ xs) h = refl

-- pieces from a place on have no more nodes than all of them
nodes_of_rest : (xs : List (Atom × ℕ)) (i : ℕ) → nodes_of_pieces (pieces (drop i xs)) ≤ nodes_of_pieces (pieces xs)
nodes_of_rest [] zero = omega arith
nodes_of_rest [] (suc i) = omega arith
nodes_of_rest (x ∷ xs) zero = omega arith
nodes_of_rest (x ∷ xs) (suc i) = omega (arith, nodes_of_rest xs i)

-- nor has a piece among them
pub nodes_of_one : (xs : List (Atom × ℕ)) (i : ℕ) (x : Atom × ℕ) → x ≡ slice_index_or xs i x → i < length xs
    → nodes_of_atom (plain x.0) ≤ nodes_of_pieces (pieces xs)
nodes_of_one xs i x e h = omega (arith, nodes_of_rest xs i, ap nodes_of_pieces (pieces_at xs i x e h))
