-- A merge of two lists of pieces: what was written stands in front of what is to come.
use Rattle.std.proofs.Common.{◌≡◌, ℕ, zero, suc, ◌+◌, ◌*◌, ◌%◌, ◌^◌, ◌<◌, ◌≤◌, ◌-◌, List, [], ◌∷◌, ◌++◌, length, take, drop, refl, sym, ap, ap₂, ◌∙◌, append-nil, append_assoc, slice_index_or, ◌⊎◌, inl, inr}
use Rattle.std.proofs.lemmas.List.{drop_more, drop_all, take_rest}
use Rattle.std.proofs.Math.Nat.{add-mod-mod}
use Rattle.std.specs.declared.cmp.Ordering.{Ordering}
use Rattle.std.specs.declared.cmp.Ordering.TheVariants.{Less, Equal, Greater}
use Rattle.sym_terms.specs.declared.sum.Atom.{Atom}
use Rattle.sym_terms.specs.Plain.{Summands, none, more}
use Rattle.sym_terms.specs.View.{plain, pieces, piece_or_none, multiples}
use Rattle.sym_terms.specs.Order.{atom_cmp}
use Rattle.sym_terms.specs.Normal.{joined, plus_times_pieces}
use Rattle.sym_terms.proofs.PieceLemmas.{pieces_at}

-- the written pieces, and then the rest
abbrev pub front : List (Atom × ℕ) → Summands → Summands
front [] rest = rest
front (x ∷ xs) rest = more (plain x.0) x.1 (front xs rest)

-- written pieces in two parts
front-append : (xs ys : List (Atom × ℕ)) (rest : Summands) → front (xs ++ ys) rest ≡ front xs (front ys rest)
front-append [] ys rest = refl
front-append (x ∷ xs) ys rest = ap (more (plain x.0) x.1) (front-append xs ys rest)

-- written pieces with no rest
front-none : (xs : List (Atom × ℕ)) → front xs none ≡ pieces xs
front-none [] = refl
front-none (x ∷ xs) = ap (more (plain x.0) x.1) (front-none xs)

-- a piece that was written, or left out where its coefficient is 0, is the first of the rest
front-piece : (out : List (Atom × ℕ)) (a : Atom) (k : ℕ) (rest : Summands)
    → front (out ++ piece_or_none a k) rest ≡ front out (joined (plain a) k rest)
front-piece out a zero rest = front-append out [] rest
front-piece out a (suc k) rest = front-append out _ rest

module _ (m : ℕ) (xs ys : List (Atom × ℕ)) (i j : ℕ) (x y : Atom × ℕ) (at_x : x ≡ slice_index_or xs i x) (in_x : i < length xs) (at_y : y ≡ slice_index_or ys j y) (in_y : j < length ys) where
  -- the pieces after the first of the left
  abbrev left : Summands
  left = pieces (drop (i + 1) xs)

  -- the pieces after the first of the right
  abbrev right : Summands
  right = pieces (drop (j + 1) ys)

  -- the merge from here on, as the order of the two atoms has it
  abbrev chosen : Ordering → Summands
  chosen o = elim o as (λ o. Summands) [
    | Less ↦ more (plain x.0) x.1 (plus_times_pieces left m (more (plain y.0) y.1 right))
    | Equal ↦ joined (plain x.0) ((x.1 + m * y.1) % 2 ^ 64) (plus_times_pieces left m right)
    | Greater ↦ joined (plain y.0) (m * y.1 % 2 ^ 64) (plus_times_pieces (more (plain x.0) x.1 left) m right)
  ]

  -- the merge at two atoms
  both_at : plus_times_pieces (pieces (drop i xs)) m (pieces (drop j ys)) ≡ chosen (atom_cmp (plain x.0) (plain y.0))
  both_at = ap₂ (λ r s. plus_times_pieces r m s) (pieces_at xs i x at_x in_x) (pieces_at ys j y at_y in_y)

  -- one step of the merge, by the order of the two atoms
  pub less_at : (out : List (Atom × ℕ)) → atom_cmp (plain x.0) (plain y.0) ≡ Less
      → front (out ++ x ∷ []) (plus_times_pieces (pieces (drop (i + 1) xs)) m (pieces (drop j ys)))
      ≡ front out (plus_times_pieces (pieces (drop i xs)) m (pieces (drop j ys)))
  less_at out e =
      front-append out (x ∷ []) _
      ∙ ap (λ r. front out (more (plain x.0) x.1 (plus_times_pieces left m r))) (pieces_at ys j y at_y in_y)
      ∙ ap (λ o. front out (chosen o)) (sym e) ∙ ap (front out) (sym both_at)

  -- the same where the atoms are equal
  pub equal_at : (out : List (Atom × ℕ)) → atom_cmp (plain x.0) (plain y.0) ≡ Equal
      → front (out ++ piece_or_none x.0 ((x.1 + m * y.1 % 2 ^ 64) % 2 ^ 64)) (plus_times_pieces (pieces (drop (i + 1) xs)) m (pieces (drop (j + 1) ys)))
      ≡ front out (plus_times_pieces (pieces (drop i xs)) m (pieces (drop j ys)))
  equal_at out e =
      front-piece out x.0 _ _
      ∙ ap (λ n. front out (joined (plain x.0) n (plus_times_pieces left m right))) (add-mod-mod x.1 (m * y.1) (2 ^ 64))
      ∙ ap (λ o. front out (chosen o)) (sym e) ∙ ap (front out) (sym both_at)

  -- the same where the right one comes first
  pub greater_at : (out : List (Atom × ℕ)) → atom_cmp (plain x.0) (plain y.0) ≡ Greater
      → front (out ++ piece_or_none y.0 (m * y.1 % 2 ^ 64)) (plus_times_pieces (pieces (drop i xs)) m (pieces (drop (j + 1) ys)))
      ≡ front out (plus_times_pieces (pieces (drop i xs)) m (pieces (drop j ys)))
  greater_at out e =
      front-piece out y.0 _ _
      ∙ ap (λ r. front out (joined (plain y.0) (m * y.1 % 2 ^ 64) (plus_times_pieces r m right))) (pieces_at xs i x at_x in_x)
      ∙ ap (λ o. front out (chosen o)) (sym e) ∙ ap (front out) (sym both_at)

-- one more multiple is written
pub multiples_at : (m : ℕ) (out xs : List (Atom × ℕ)) (i : ℕ) (x : Atom × ℕ) → x ≡ slice_index_or xs i x → i < length xs
    → (out ++ piece_or_none x.0 (m * x.1 % 2 ^ 64)) ++ multiples m (drop (i + 1) xs) ≡ out ++ multiples m (drop i xs)
multiples_at m out xs i x e h =
    append_assoc out (piece_or_none x.0 (m * x.1 % 2 ^ 64)) (multiples m (drop (i + 1) xs))
    ∙ ap (λ r. out ++ multiples m r) (sym (drop_more xs i x h ∙ ap (λ y. y ∷ drop (i + 1) xs) (sym e)))

-- a piece in front, as a list
joined_piece : (a : Atom) (k : ℕ) (xs : List (Atom × ℕ)) → joined (plain a) k (pieces xs) ≡ pieces (piece_or_none a k ++ xs)
joined_piece a zero xs = refl
joined_piece a (suc k) xs = refl

-- a merge with nothing gives the multiples
multiples-none : (m : ℕ) (ys : List (Atom × ℕ)) → plus_times_pieces none m (pieces ys) ≡ pieces (multiples m ys)
multiples-none m [] = refl
multiples-none m (y ∷ ys) =
    ap (joined (plain y.0) (m * y.1 % 2 ^ 64)) (multiples-none m ys) ∙ joined_piece y.0 (m * y.1 % 2 ^ 64) (multiples m ys)

-- where one side has ended, the rest of the other is left
ended : (m : ℕ) (xs ys : List (Atom × ℕ)) → (xs ≡ []) ⊎ (ys ≡ []) → plus_times_pieces (pieces xs) m (pieces ys) ≡ pieces (xs ++ multiples m ys)
ended m [] ys h = multiples-none m ys
ended m (x ∷ xs) [] h = sym (ap pieces (append-nil (x ∷ xs)))
ended m (x ∷ xs) (y ∷ ys) (inl e) = absurd (cc)
ended m (x ∷ xs) (y ∷ ys) (inr e) = absurd (cc)

-- what is left after the loop is written after it
pub written : (m : ℕ) (xs ys out out2 out3 : List (Atom × ℕ)) (i j : ℕ)
    → out2 ≡ out ++ take (length xs - i) (drop i xs) → out3 ≡ out2 ++ multiples m (take (length ys - j) (drop j ys)) → (length xs ≤ i) ⊎ (length ys ≤ j)
    → pieces out3 ≡ front out (plus_times_pieces (pieces (drop i xs)) m (pieces (drop j ys)))
written m xs ys out out2 out3 i j e f h =
    let over : (drop i xs ≡ []) ⊎ (drop j ys ≡ []) = elim h [ inl a ↦ inl (drop_all i xs a) | inr b ↦ inr (drop_all j ys b) ] in
    let rest = drop i xs ++ multiples m (drop j ys) in
    ap pieces (rw (take_rest ys j) at f ∙ ap (λ o. o ++ multiples m (drop j ys)) (rw (take_rest xs i) at e) ∙ append_assoc out (drop i xs) (multiples m (drop j ys)))
    ∙ sym (front-none (out ++ rest)) ∙ front-append out rest none
    ∙ ap (front out) (front-none rest ∙ sym (ended m (drop i xs) (drop j ys) over))
