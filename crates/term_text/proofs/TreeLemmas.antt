-- The term of a tree: it is in normal form, and has at most as many nodes as the tree has loose ones.
use Rattle.std.proofs.Common.{◌≡◌, ℕ, zero, suc, ◌+◌, ◌*◌, ◌%◌, ◌^◌, ◌<◌, ◌≤◌, List, Some, refl, ap₂, subst, arith}
use Rattle.std.specs.Prelude.{IfSome}
use Rattle.sym_terms.specs.Plain.{PlainSum, sum, Summands, none, more, PlainAtom, symbol}
use Rattle.sym_terms.specs.Nodes.{nodes}
use Rattle.sym_terms.specs.Normal.{joined, plus_times_pieces, plus_times, plus, times, IsNormal, AreNormal}
use Rattle.sym_terms.proofs.SumLemmas.{plus_times_normal, plus_times_nodes}
use Rattle.sym_terms.proofs.AtomLemmas.{alone_normal, zero_normal, fit_normal, pair_normal, fit_nodes, pair_nodes}
use Rattle.term_text.specs.Numbers.{number_at}
use Rattle.term_text.specs.Tree.{Sign, positive, negative, LooseTerm, loose_term, LoosePieces, no_piece, one_piece, LoosePiece, loose_number, loose_atom, loose_multiple, LooseAtom, loose_symbol, loose_fit, loose_pair, SpellsTerm, SpellsPieces, SpellsPiece, SpellsAtom, loose_nodes, nodes_of_more, nodes_of_piece, nodes_inside, signed_number, sign_or_plus, term_of, sum_with, term_of_piece, term_of_atom}
use Rattle.term_text.proofs.BuildLemmas.{number_below}
use Rattle.term_text.proofs.SpellLemmas.{spelled_known}

-- ---- normal form

-- a number after a sign has 64 bits
signed_below : (sign : Sign) (n : ℕ) → n < 2 ^ 64 → signed_number sign n < 2 ^ 64
signed_below positive n lt = lt
signed_below negative n lt = omega arith

-- so has a number that is spelled
spelled_below : (n : ℕ) (w : List ℕ) → number_at w ≡ Some n → n < 2 ^ 64
spelled_below n w e = subst (λ o. IfSome o (λ (m : ℕ). m < 2 ^ 64)) e (number_below w)

-- a multiple of a normal term
times_normal : (k : ℕ) (t : PlainSum) → IsNormal t → IsNormal (times k t)
times_normal k t n = plus_times_normal (sum 0 none) k t zero_normal n

mutual
  -- what is spelled stands for a term in normal form
  pub tree_normal : (t : LooseTerm) (x : List ℕ) → SpellsTerm t x → IsNormal (term_of t)
  tree_normal (loose_term first p ps) x h =
      more_normal (term_of_piece (sign_or_plus first) p) ps h.4.1 (piece_normal (sign_or_plus first) p h.4.0 h.4.3) h.4.4

  more_normal : (t : PlainSum) (ps : LoosePieces) (x : List ℕ) → IsNormal t → SpellsPieces ps x → IsNormal (sum_with t ps)
  more_normal t no_piece x n h = n
  more_normal t (one_piece sign p ps) x n h =
      more_normal (plus t (term_of_piece sign p)) ps h.4.1 (plus_times_normal t 1 (term_of_piece sign p) n (piece_normal sign p h.4.0 h.4.3)) h.4.4

  pub piece_normal : (sign : Sign) (p : LoosePiece) (x : List ℕ) → SpellsPiece p x → IsNormal (term_of_piece sign p)
  piece_normal sign (loose_number n) x h = (signed_below sign n (spelled_below n x h), tt)
  piece_normal sign (loose_atom a) x h = times_normal (signed_number sign 1) (term_of_atom a) (atom_normal a x h)
  piece_normal sign (loose_multiple n a) x h = times_normal (signed_number sign n) (term_of_atom a) (atom_normal a h.4.1 h.4.4)

  pub atom_normal : (a : LooseAtom) (x : List ℕ) → SpellsAtom a x → IsNormal (term_of_atom a)
  atom_normal (loose_symbol s) x h = alone_normal (symbol s) (spelled_known s x h)
  atom_normal (loose_fit f t) x h = fit_normal f (term_of t) (tree_normal t h.4.4.0 h.4.4.3)
  atom_normal (loose_pair p a b) x h =
      pair_normal p (term_of a) (term_of b) (tree_normal a h.4.4.0 h.4.4.3) (tree_normal b h.4.4.4.4.0 h.4.4.4.4.3)

-- ---- nodes

-- a multiple has no more nodes
pub times_nodes : (k : ℕ) (t : PlainSum) → nodes (times k t) ≤ nodes t
times_nodes k t = omega (arith, plus_times_nodes (sum 0 none) k t)

mutual
  -- a term has at most the loose nodes of its tree
  pub tree_nodes : (t : LooseTerm) → nodes (term_of t) ≤ loose_nodes t
  tree_nodes (loose_term first p ps) =
      omega (arith, more_nodes (term_of_piece (sign_or_plus first) p) ps, piece_nodes (sign_or_plus first) p)

  more_nodes : (t : PlainSum) (ps : LoosePieces) → nodes (sum_with t ps) ≤ nodes t + nodes_of_more ps
  more_nodes t no_piece = omega arith
  more_nodes t (one_piece sign p ps) =
      omega (arith, more_nodes (plus t (term_of_piece sign p)) ps, plus_times_nodes t 1 (term_of_piece sign p), piece_nodes sign p)

  pub piece_nodes : (sign : Sign) (p : LoosePiece) → nodes (term_of_piece sign p) ≤ 1 + nodes_of_piece p
  piece_nodes sign (loose_number n) = omega arith
  piece_nodes sign (loose_atom a) = omega (arith, times_nodes (signed_number sign 1) (term_of_atom a), atom_nodes a)
  piece_nodes sign (loose_multiple n a) = omega (arith, times_nodes (signed_number sign n) (term_of_atom a), atom_nodes a)

  pub atom_nodes : (a : LooseAtom) → nodes (term_of_atom a) ≤ 2 + nodes_inside a
  atom_nodes (loose_symbol s) = omega arith
  atom_nodes (loose_fit f t) = omega (arith, fit_nodes f (term_of t), tree_nodes t)
  atom_nodes (loose_pair p a b) = omega (arith, pair_nodes p (term_of a) (term_of b), tree_nodes a, tree_nodes b)

-- ---- a term once

-- a coefficient that is not 0 stays
joined_same : (a : PlainAtom) (k m : ℕ) (xs ys : Summands) → 0 < k → m ≡ k → ys ≡ xs → joined a m ys ≡ more a k xs
joined_same a zero m xs ys pos e same = absurd (omega arith)
joined_same a (suc k) m xs ys pos e same = ap₂ (λ (n : ℕ) (zs : Summands). joined a n zs) e same

-- the pieces of a normal term once
pieces_once : (xs : Summands) → AreNormal xs → plus_times_pieces none 1 xs ≡ xs
pieces_once none n = refl
pieces_once (more a k xs) n =
    joined_same a k (1 * k % 2 ^ 64) xs (plus_times_pieces none 1 xs) n.1 (omega (arith, n.2)) (pieces_once xs n.4)

-- 1 times a normal term
pub times_once : (t : PlainSum) → IsNormal t → times 1 t ≡ t
unfolding plus_times
times_once (sum c xs) n = ap₂ sum (let e : (0 + 1 * c) % 2 ^ 64 ≡ c = omega (arith, n.0) in e) (pieces_once xs n.1)
