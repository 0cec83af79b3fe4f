-- A piece or a constant that is added at the end stands at the end.
use Rattle.std.proofs.Common.{◌≡◌, ℕ, zero, suc, ◌+◌, ◌-◌, ◌*◌, ◌%◌, ◌^◌, ◌<◌, ◌≤◌, Bool, true, false, leb, if◌then◌else◌, Some, refl, ap, ap₂, ◌∙◌, arith}
use Rattle.std.specs.declared.cmp.Ordering.{Ordering}
use Rattle.std.specs.declared.cmp.Ordering.TheVariants.{Less, Equal, Greater}
use Rattle.std.proofs.lemmas.Bool.{le-leb, ltb-true}
use Rattle.sym_terms.specs.Plain.{PlainSum, sum, Summands, none, more, PlainAtom, single_atom}
use Rattle.sym_terms.specs.Order.{atom_cmp}
use Rattle.sym_terms.specs.Codes.{atom_total}
use Rattle.sym_terms.specs.Nodes.{nodes}
use Rattle.sym_terms.specs.Normal.{joined, plus_times_pieces, plus_times, plus, times, within_node_limit, AreNormal, IsBefore}
use Rattle.term_text.specs.Text.{is_negative, magnitude}

-- ---- pieces in a row

-- pieces, and others after them
abbrev pub append : Summands → Summands → Summands
append none ys = ys
append (more a k xs) ys = more a k (append xs ys)

-- nothing after them
pub append-none : (xs : Summands) → append xs none ≡ xs
append-none none = refl
append-none (more a k xs) = ap (more a k) (append-none xs)

-- appending groups either way
pub append_assoc_pieces : (xs ys zs : Summands) → append (append xs ys) zs ≡ append xs (append ys zs)
append_assoc_pieces none ys zs = refl
append_assoc_pieces (more a k xs) ys zs = ap (more a k) (append_assoc_pieces xs ys zs)

-- each atom comes before this one
abbrev pub AllBefore : Summands → PlainAtom → Type 0
AllBefore none a = Unit {0}
AllBefore (more b l ys) a = (atom_cmp b a ≡ Less) × AllBefore ys a

-- each atom of the first comes before each of the second
abbrev pub Apart : Summands → Summands → Type 0
Apart ys none = Unit {0}
Apart ys (more a k xs) = AllBefore ys a × Apart ys xs

-- no pieces come before all
pub apart_none : (xs : Summands) → Apart none xs
apart_none none = tt
apart_none (more a k xs) = (tt, apart_none xs)

-- an atom comes before each of these
abbrev After : PlainAtom → Summands → Type 0
After a none = Unit {0}
After a (more b l ys) = (atom_cmp a b ≡ Less) × After a ys

-- what comes before an atom comes before those after it
before_more : (b a : PlainAtom) (xs : Summands) (k : ℕ) → atom_cmp b a ≡ Less → IsBefore a xs → IsBefore b xs
before_more b a none k h i = tt
before_more b a (more c l xs) k h i = atom_total.trans b a c h i

-- in normal form an atom comes before all after it
after_all : (a : PlainAtom) (xs : Summands) → IsBefore a xs → AreNormal xs → After a xs
after_all a none h n = tt
after_all a (more b l ys) h n = (h, after_all a ys (before_more a b ys l h n.3) n.4)

-- one more that comes before
all_before_push : (ys : Summands) (a b : PlainAtom) (k : ℕ) → AllBefore ys b → atom_cmp a b ≡ Less
    → AllBefore (append ys (more a k none)) b
all_before_push none a b k h lt = (lt, tt)
all_before_push (more c l ys) a b k h lt = (h.0, all_before_push ys a b k h.1 lt)

-- one more that comes before all of these
push_after : (ys : Summands) (a : PlainAtom) (k : ℕ) (xs : Summands) → Apart ys xs → After a xs
    → Apart (append ys (more a k none)) xs
push_after ys a k none p f = tt
push_after ys a k (more b l xs) p f = (all_before_push ys a b k p.0 f.0, push_after ys a k xs p.1 f.1)

-- the first of the pieces to come goes to those that were read
pub apart_push : (ys : Summands) (a : PlainAtom) (k : ℕ) (xs : Summands) → Apart ys (more a k xs)
    → AreNormal (more a k xs) → Apart (append ys (more a k none)) xs
apart_push ys a k xs p n = push_after ys a k xs p.1 (after_all a xs n.3 n.4)

-- ---- a piece is added

-- a coefficient that is not 0
joined_is : (a : PlainAtom) (k m : ℕ) → 0 < k → m ≡ k → joined a m none ≡ more a k none
joined_is a zero m pos e = absurd (omega arith)
joined_is a (suc k) m pos e = ap (λ (n : ℕ). joined a n none) e

-- a piece after all others is appended
plus_end : (ys : Summands) (a : PlainAtom) (k : ℕ) → 0 < k → k < 2 ^ 64 → AllBefore ys a
    → plus_times_pieces ys 1 (more a k none) ≡ append ys (more a k none)
plus_end none a k pos lt h = joined_is a k (1 * k % 2 ^ 64) pos (omega arith)
plus_end (more b l ys) a k pos lt h =
    ap (λ (o : Ordering). elim o as (λ o. Summands) [
      | Less ↦ more b l (plus_times_pieces ys 1 (more a k none))
      | Equal ↦ joined b ((l + 1 * k) % 2 ^ 64) (plus_times_pieces ys 1 none)
      | Greater ↦ joined a (1 * k % 2 ^ 64) (plus_times_pieces (more b l ys) 1 none)
    ]) h.0 ∙ ap (more b l) (plus_end ys a k pos lt h.1)

-- an atom times a number
pub times_alone : (a : PlainAtom) (k : ℕ) → 0 < k → k < 2 ^ 64 → times k (single_atom a) ≡ sum 0 (more a k none)
unfolding plus_times
times_alone a k pos lt = ap₂ sum (let e : (0 + k * 0) % 2 ^ 64 ≡ 0 = omega arith in e) (joined_is a k (k * 1 % 2 ^ 64) pos (omega arith))

-- within the limit
pub within_is : (a : PlainSum) → nodes a ≤ 32 → within_node_limit a ≡ Some a
unfolding within_node_limit
within_is a le = let e : leb (nodes a) 32 ≡ true = le-leb _ _ le in rw e refl

-- the sum of pieces with one after them
pub plus_is : (ys : Summands) (a : PlainAtom) (k : ℕ) → 0 < k → k < 2 ^ 64 → AllBefore ys a
    → plus (sum 0 ys) (sum 0 (more a k none)) ≡ sum 0 (append ys (more a k none))
unfolding plus_times
plus_is ys a k pos lt h = ap (sum 0) (plus_end ys a k pos lt h)

-- ---- magnitudes, and a constant is added

-- a magnitude has 64 bits
pub magnitude_below : (k : ℕ) → k < 2 ^ 64 → magnitude k < 2 ^ 64
magnitude_below k lt = by_sign (is_negative k) refl
  where
    by_sign : (b : Bool) → is_negative k ≡ b → (if b then 2 ^ 64 - k else k) < 2 ^ 64
    by_sign true e = omega (arith, ltb-true _ _ e)
    by_sign false e = lt

-- nothing is added
plus_none : (xs : Summands) → plus_times_pieces xs 1 none ≡ xs
plus_none none = refl
plus_none (more a k xs) = refl

-- a constant is added
pub plus_constant : (xs : Summands) (c : ℕ) → c < 2 ^ 64 → plus (sum 0 xs) (sum c none) ≡ sum c xs
unfolding plus_times
plus_constant xs c lt = ap₂ sum (let e : (0 + 1 * c) % 2 ^ 64 ≡ c = omega arith in e) (plus_none xs)
