-- Pieces are written one after the other.
use Rattle.std.proofs.Common.{◌≡◌, ℕ, ◌+◌, ◌<◌, ◌≤◌, Bool, true, false, IsTrue, ◌↔◌, List, [], ◌∷◌, ◌++◌, length, drop, refl, sym, ap, ◌∙◌, append_assoc}
use Rattle.std.proofs.lemmas.List.{append-nil}
use Rattle.std.specs.List.{slice_index_or}
use Rattle.sym_terms.specs.declared.sum.Atom.{Atom}
use Rattle.sym_terms.specs.Plain.{sum}
use Rattle.sym_terms.specs.View.{plain, pieces}
use Rattle.sym_terms.proofs.PieceLemmas.{pieces_at, pieces_end}
use Rattle.term_text.specs.Text.{magnitude, sign_text, factor_text, constant_text, are_none, sum_text, pieces_text, atom_text}

-- a list of atoms is empty where its pieces are none
pub empty_is : (b : Bool) (xs : List (Atom × ℕ)) → (IsTrue b ↔ (xs ≡ [])) → b ≡ are_none (pieces xs)
empty_is true [] h = refl
empty_is true (x ∷ xs) h = absurd (let e : x ∷ xs ≡ [] = h.0 refl in cc)
empty_is false [] h = absurd (let e : false ≡ true = h.1 refl in cc)
empty_is false (x ∷ xs) h = refl

-- pieces, and then the constant
pub sum_put : (o0 o1 o2 : List ℕ) (xs : List (Atom × ℕ)) (k : ℕ) (b : Bool)
    → o1 ≡ o0 ++ pieces_text true (pieces xs) → o2 ≡ o1 ++ constant_text b k → b ≡ are_none (pieces xs)
    → o2 ≡ o0 ++ sum_text (sum k (pieces xs))
sum_put o0 o1 o2 xs k b p q e =
    q ∙ ap (λ (o : List ℕ). o ++ constant_text b k) p
    ∙ append_assoc o0 (pieces_text true (pieces xs)) (constant_text b k)
    ∙ ap (λ (t : Bool). o0 ++ (pieces_text true (pieces xs) ++ constant_text t k)) e

-- the piece at i, by its parts
pub piece_put : (o0 o1 o2 o3 all : List ℕ) (first : Bool) (xs : List (Atom × ℕ)) (i : ℕ) (x : Atom × ℕ)
    → x ≡ slice_index_or xs i x → i < length xs
    → o1 ≡ o0 ++ sign_text first x.1 → o2 ≡ o1 ++ factor_text (magnitude x.1) → o3 ≡ o2 ++ atom_text (plain x.0)
    → o0 ++ pieces_text first (pieces (drop i xs)) ≡ all → o3 ++ pieces_text false (pieces (drop (i + 1) xs)) ≡ all
piece_put o0 o1 o2 o3 all first xs i x is lt e1 e2 e3 so_far =
    let rest = pieces_text false (pieces (drop (i + 1) xs)) in
    let one : o3 ≡ o0 ++ (sign_text first x.1 ++ (factor_text (magnitude x.1) ++ atom_text (plain x.0))) = rw (e3, e2, e1) (simp append_assoc) in
    ap (λ (o : List ℕ). o ++ rest) one
    ∙ append_assoc o0 (sign_text first x.1 ++ (factor_text (magnitude x.1) ++ atom_text (plain x.0))) rest
    ∙ ap (λ ps. o0 ++ pieces_text first ps) (sym (pieces_at xs i x is lt)) ∙ so_far

-- after the last piece
pub pieces_put : (o all : List ℕ) (first : Bool) (xs : List (Atom × ℕ)) (i : ℕ) → length xs ≤ i
    → o ++ pieces_text first (pieces (drop i xs)) ≡ all → o ≡ all
pieces_put o all first xs i le so_far = sym (append-nil o) ∙ ap (λ ps. o ++ pieces_text first ps) (sym (pieces_end xs i le)) ∙ so_far
