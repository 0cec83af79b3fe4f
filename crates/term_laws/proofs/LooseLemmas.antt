-- The normal form of any term: it is normal, has the term's value, and leaves a normal term as it is.
use Rattle.std.proofs.Common.{◌≡◌, ℕ, zero, suc, ◌+◌, ◌*◌, ◌%◌, ◌^◌, ◌<◌, refl, ap, ap₂, ◌∙◌, arith}
use Rattle.std.proofs.Math.Nat.{add-mod-mod, mod-add-mod, add_comm, mod-lt}
use Rattle.std.specs.declared.cmp.Ordering.TheVariants.{Less, Equal, Greater}
use Rattle.std.specs.Ordering.{ordering_reverse}
use Rattle.sym_terms.specs.Plain.{PlainSum, sum, Summands, none, more, PlainAtom, symbol, fitted, paired, single_atom}
use Rattle.sym_terms.specs.Numbers.{fit_number, pair_number}
use Rattle.sym_terms.specs.Order.{atom_cmp}
use Rattle.sym_terms.specs.Codes.{atom_total}
use Rattle.sym_terms.specs.Value.{Valuation, IsInRange, value, value_of_pieces, value_of_atom}
use Rattle.sym_terms.specs.Normal.{joined, plus_times_pieces, plus_times, plus, fit, pair, IsNormal, AreNormal, IsNormalAtom, IsBefore}
use Rattle.sym_terms.specs.Loose.{normal, normal_pieces, normal_atom, HasSymbols, HaveSymbols, AtomHasSymbols}
use Rattle.sym_terms.proofs.SumLemmas.{plus_times_normal}
use Rattle.term_laws.proofs.SumValueLemmas.{plus_times_value}
use Rattle.sym_terms.proofs.AtomLemmas.{alone_normal, fit_normal, pair_normal}
use Rattle.term_laws.proofs.AtomValueLemmas.{fit_value, pair_value, symbol_value}

-- the normal form is normal
mutual
  pub normal_normal : (a : PlainSum) → HasSymbols a → IsNormal (normal a)
  normal_normal (sum c xs) h =
      plus_times_normal (normal_pieces xs) 1 (sum (c % 2 ^ 64) none) (normal_pieces_normal xs h) (mod-lt c (omega arith), tt)

  -- so is the sum of pieces
  normal_pieces_normal : (xs : Summands) → HaveSymbols xs → IsNormal (normal_pieces xs)
  normal_pieces_normal none h = (omega arith, tt)
  normal_pieces_normal (more a k xs) h =
      plus_times_normal (normal_pieces xs) k (normal_atom a) (normal_pieces_normal xs h.1) (normal_atom_normal a h.0)

  -- so is one atom
  normal_atom_normal : (a : PlainAtom) → AtomHasSymbols a → IsNormal (normal_atom a)
  normal_atom_normal (symbol s) h = alone_normal (symbol s) h
  normal_atom_normal (fitted f a) h = fit_normal f (normal a) (normal_normal a h)
  normal_atom_normal (paired p a b) h = pair_normal p (normal a) (normal b) (normal_normal a h.0) (normal_normal b h.1)

-- the value of a constant and of pieces, and of pieces and one more, modulo m
with_constant : (c x y m : ℕ) → y ≡ x % m → (y + 1 * ((c % m + 0) % m)) % m ≡ (c + x) % m
with_constant c x y m e =
    let one : y + 1 * ((c % m + 0) % m) ≡ y + (c % m + 0) % m = omega arith in
    let same : x + (c % m + 0) ≡ c % m + x = omega arith in
    ap (λ n. n % m) one ∙ add-mod-mod y (c % m + 0) m
    ∙ ap (λ n. (n + (c % m + 0)) % m) e ∙ mod-add-mod x m (c % m + 0)
    ∙ ap (λ n. n % m) same ∙ mod-add-mod c m x

-- the value with one more piece, modulo m
with_piece : (k v w x y m : ℕ) → v ≡ w → y ≡ x % m → (y + k * v) % m ≡ (k * w + x) % m
with_piece k v w x y m e f =
    ap (λ n. (n + k * v) % m) f ∙ mod-add-mod x m (k * v) ∙ ap (λ n. n % m) (add_comm x (k * v)) ∙ ap (λ n. (k * n + x) % m) e

module _ (u : Valuation) (range : IsInRange u) where
  mutual
    -- the normal form keeps the value
    pub normal_value : (a : PlainSum) → HasSymbols a → value u (normal a) ≡ value u a
    normal_value (sum c xs) h =
        plus_times_value u (normal_pieces xs) 1 (sum (c % 2 ^ 64) none)
        ∙ with_constant c (value_of_pieces u xs) _ (2 ^ 64) (normal_pieces_value xs h)

    -- so does the sum of pieces
    normal_pieces_value : (xs : Summands) → HaveSymbols xs → value u (normal_pieces xs) ≡ value_of_pieces u xs % 2 ^ 64
    normal_pieces_value none h = refl
    normal_pieces_value (more a k xs) h =
        plus_times_value u (normal_pieces xs) k (normal_atom a)
        ∙ with_piece k _ (value_of_atom u a) (value_of_pieces u xs) _ (2 ^ 64) (normal_atom_value a h.0) (normal_pieces_value xs h.1)

    -- so does one atom
    normal_atom_value : (a : PlainAtom) → AtomHasSymbols a → value u (normal_atom a) ≡ value_of_atom u a
    normal_atom_value (symbol s) h = symbol_value u range s h
    normal_atom_value (fitted f a) h = fit_value u range f (normal a) (normal_normal a h) ∙ ap (fit_number f) (normal_value a h)
    normal_atom_value (paired p a b) h =
        pair_value u range p (normal a) (normal b) (normal_normal a h.0) (normal_normal b h.1)
        ∙ ap₂ (pair_number p) (normal_value a h.0) (normal_value b h.1)

-- k times a coefficient of 1 is k
joined_one : (a : PlainAtom) (k : ℕ) (xs : Summands) → 0 < k → k < 2 ^ 64 → joined a (k * 1 % 2 ^ 64) xs ≡ more a k xs
joined_one a zero xs h i = absurd (omega arith)
joined_one a (suc k) xs h i = let e : suc k * 1 % 2 ^ 64 ≡ suc k = omega arith in rw e refl

-- an atom after another, seen from that one
after : (a b : PlainAtom) → atom_cmp a b ≡ Less → atom_cmp b a ≡ Greater
after a b e = atom_total.antisymm b a ∙ ap ordering_reverse e

-- an atom before the others goes in front of them
in_front : (a : PlainAtom) (k : ℕ) (xs : Summands) → 0 < k → k < 2 ^ 64 → IsBefore a xs → plus_times_pieces xs k (more a 1 none) ≡ more a k xs
in_front a k none h i before = joined_one a k none h i
in_front a k (more b l ys) h i before =
    ap (λ o. elim o as (λ o. Summands) [
      | Less ↦ more b l (plus_times_pieces ys k (more a 1 none))
      | Equal ↦ joined b ((l + k * 1) % 2 ^ 64) (plus_times_pieces ys k none)
      | Greater ↦ joined a (k * 1 % 2 ^ 64) (plus_times_pieces (more b l ys) k none)
    ]) (after a b before)
    ∙ joined_one a k (more b l ys) h i

-- one more atom before all pieces
one_more : (a : PlainAtom) (k : ℕ) (xs : Summands) → 0 < k → k < 2 ^ 64 → IsBefore a xs → plus_times (sum 0 xs) k (single_atom a) ≡ sum 0 (more a k xs)
unfolding plus_times
one_more a k xs h i before = ap₂ sum (let e : (0 + k * 0) % 2 ^ 64 ≡ 0 = omega arith in e) (in_front a k xs h i before)

-- pieces with none added
no_pieces : (xs : Summands) → plus_times_pieces xs 1 none ≡ xs
no_pieces none = refl
no_pieces (more a k xs) = refl

-- pieces with a constant added
one_constant : (c : ℕ) (xs : Summands) → c < 2 ^ 64 → plus (sum 0 xs) (sum (c % 2 ^ 64) none) ≡ sum c xs
unfolding plus_times
one_constant c xs h = ap₂ sum (let e : (0 + 1 * (c % 2 ^ 64)) % 2 ^ 64 ≡ c = omega arith in e) (no_pieces xs)

-- a normal term is its own normal form
mutual
  pub normal_same : (a : PlainSum) → IsNormal a → normal a ≡ a
  normal_same (sum c xs) n = ap (λ s. plus s (sum (c % 2 ^ 64) none)) (normal_pieces_same xs n.1) ∙ one_constant c xs n.0

  -- so are normal pieces
  normal_pieces_same : (xs : Summands) → AreNormal xs → normal_pieces xs ≡ sum 0 xs
  normal_pieces_same none n = refl
  normal_pieces_same (more a k xs) n =
      ap₂ (λ s t. plus_times s k t) (normal_pieces_same xs n.4) (normal_atom_same a n.0) ∙ one_more a k xs n.1 n.2 n.3

  -- so is a normal atom
  normal_atom_same : (a : PlainAtom) → IsNormalAtom a → normal_atom a ≡ single_atom a
  normal_atom_same (symbol s) n = refl
  normal_atom_same (fitted f a) n = ap (fit f) (normal_same a n.0) ∙ n.1
  normal_atom_same (paired p a b) n = ap₂ (pair p) (normal_same a n.0) (normal_same b n.1) ∙ n.2
