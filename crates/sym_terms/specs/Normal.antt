-- What the normal form is: what each operation gives in it, and which terms are in it.
use Rattle.std.specs.Prelude.{◌≡◌, ℕ, zero, suc, ◌+◌, ◌-◌, ◌*◌, ◌%◌, ◌^◌, ◌<◌, ◌≤◌, Bool, false, ◌&&◌, ◌==◌, nat_le, if◌then◌else◌, Option, Some, None}
use Rattle.std.specs.declared.cmp.Ordering.TheVariants.{Less, Equal, Greater}
use Rattle.std.specs.Ordering.{is_eq}
use Rattle.sym_terms.specs.declared.kinds.Fit.{Fit}
use Rattle.sym_terms.specs.declared.kinds.Fit.TheVariants.{Zx8, Zx16, Zx32, Sx8, Sx16, Sx32}
use Rattle.sym_terms.specs.declared.kinds.Pair.{Pair}
use Rattle.sym_terms.specs.declared.kinds.Pair.TheVariants.{And, Or, Xor, Mul, Shr, Sar}
use Rattle.sym_terms.specs.Limits.{most_nodes}
use Rattle.sym_terms.specs.Numbers.{fit_number, pair_number}
use Rattle.sym_terms.specs.Plain.{PlainSum, sum, Summands, none, more, PlainAtom, symbol, fitted, paired, constant_alone, single_atom, IsSymbol}
use Rattle.sym_terms.specs.Nodes.{nodes}
use Rattle.sym_terms.specs.Order.{atom_cmp, sum_cmp}

-- a piece in front of others, and nothing where its coefficient is 0
abbrev pub joined : PlainAtom → ℕ → Summands → Summands
joined a zero xs = xs
joined a (suc k) xs = more a (suc k) xs

-- ascending pieces xs + m * ys: an atom of both has the sum of its coefficients, and none has 0
abbrev pub plus_times_pieces : Summands → ℕ → Summands → Summands
plus_times_pieces none m none = none
plus_times_pieces none m (more b l ys) = joined b (m * l % 2 ^ 64) (plus_times_pieces none m ys)
plus_times_pieces (more a k xs) m none = more a k xs
plus_times_pieces (more a k xs) m (more b l ys) =
    elim (atom_cmp a b) as (λ o. Summands) [
      | Less ↦ more a k (plus_times_pieces xs m (more b l ys))
      | Equal ↦ joined a ((k + m * l) % 2 ^ 64) (plus_times_pieces xs m ys)
      | Greater ↦ joined b (m * l % 2 ^ 64) (plus_times_pieces (more a k xs) m ys)
    ]

-- the term a + m * b
unfoldable pub plus_times : PlainSum → ℕ → PlainSum → PlainSum
plus_times (sum c xs) m (sum d ys) = sum ((c + m * d) % 2 ^ 64) (plus_times_pieces xs m ys)

-- the term a + b
abbrev pub plus : PlainSum → PlainSum → PlainSum
plus a b = plus_times a 1 b

-- the term a - b
abbrev pub minus : PlainSum → PlainSum → PlainSum
minus a b = plus_times a (2 ^ 64 - 1) b

-- the term m * a
abbrev pub times : ℕ → PlainSum → PlainSum
times m a = plus_times (sum 0 none) m a

-- the bits of what a fit gives: its width by zeros, and 64 by the sign
abbrev pub fit_bits : Fit → ℕ
fit_bits Zx8 = 8
fit_bits Zx16 = 16
fit_bits Zx32 = 32
fit_bits Sx8 = 64
fit_bits Sx16 = 64
fit_bits Sx32 = 64

-- the bits of the numbers that a fit never changes: w by zeros, and w - 1 by the sign
abbrev pub kept_bits : Fit → ℕ
kept_bits Zx8 = 8
kept_bits Zx16 = 16
kept_bits Zx32 = 32
kept_bits Sx8 = 7
kept_bits Sx16 = 15
kept_bits Sx32 = 31

-- the bits of an atom
abbrev pub atom_bits : PlainAtom → ℕ
atom_bits (symbol s) = 64
atom_bits (fitted f a) = fit_bits f
atom_bits (paired p a b) = 64

-- a term stays as it is under a fit where it is one fit by zeros that is no wider than what is kept
abbrev pub fit_is_identity : Fit → PlainSum → Bool
fit_is_identity f (sum c none) = false
fit_is_identity f (sum c (more a k none)) = (c == 0) && (k == 1) && nat_le (atom_bits a) (kept_bits f)
fit_is_identity f (sum c (more a k (more b l ys))) = false

-- a fit of a constant is a constant; else the term stays, or is one atom
abbrev pub fit_by : Fit → Option ℕ → PlainSum → PlainSum
fit_by f (Some c) a = sum (fit_number f c) none
fit_by f None a = if fit_is_identity f a then a else single_atom (fitted f a)

-- the fit of a term
unfoldable pub fit : Fit → PlainSum → PlainSum
fit f a = fit_by f (constant_alone a) a

-- one atom, but for the and, or and xor of a term with itself
abbrev pub pair_alone : Pair → PlainSum → PlainSum → PlainSum
pair_alone And a b = if is_eq (sum_cmp a b) then a else single_atom (paired And a b)
pair_alone Or a b = if is_eq (sum_cmp a b) then a else single_atom (paired Or a b)
pair_alone Xor a b = if is_eq (sum_cmp a b) then sum 0 none else single_atom (paired Xor a b)
pair_alone Mul a b = single_atom (paired Mul a b)
pair_alone Shr a b = single_atom (paired Shr a b)
pair_alone Sar a b = single_atom (paired Sar a b)

-- a product with a constant is a multiple, and every other pair is as above
abbrev pub pair_scaled : Pair → ℕ → PlainSum → PlainSum → PlainSum → PlainSum
pair_scaled And x scaled a b = pair_alone And a b
pair_scaled Or x scaled a b = pair_alone Or a b
pair_scaled Xor x scaled a b = pair_alone Xor a b
pair_scaled Mul x scaled a b = times x scaled
pair_scaled Shr x scaled a b = pair_alone Shr a b
pair_scaled Sar x scaled a b = pair_alone Sar a b

-- a pair of constants is a constant
abbrev pub pair_by : Pair → Option ℕ → Option ℕ → PlainSum → PlainSum → PlainSum
pair_by p (Some x) (Some y) a b = sum (pair_number p x y) none
pair_by p (Some x) None a b = pair_scaled p x b a b
pair_by p None (Some y) a b = pair_scaled p y a a b
pair_by p None None a b = pair_alone p a b

-- the pair of two terms
unfoldable pub pair : Pair → PlainSum → PlainSum → PlainSum
pair p a b = pair_by p (constant_alone a) (constant_alone b) a b

-- the first atom, if there is one, comes after this one
abbrev pub IsBefore : PlainAtom → Summands → Type 0
IsBefore a none = Unit {0}
IsBefore a (more b l ys) = atom_cmp a b ≡ Less

-- numbers have 64 bits, atoms ascend with coefficients that aren't 0, and each fit and pair is an
-- atom of its own, at every level
abbrev mutual
  pub IsNormal : PlainSum → Type 0
  IsNormal (sum c xs) = (c < 2 ^ 64) × AreNormal xs

  pub AreNormal : Summands → Type 0
  AreNormal none = Unit {0}
  AreNormal (more a k xs) = IsNormalAtom a × (0 < k) × (k < 2 ^ 64) × IsBefore a xs × AreNormal xs

  pub IsNormalAtom : PlainAtom → Type 0
  IsNormalAtom (symbol s) = IsSymbol s
  IsNormalAtom (fitted f a) = IsNormal a × (fit f a ≡ single_atom (fitted f a))
  IsNormalAtom (paired p a b) = IsNormal a × IsNormal b × (pair p a b ≡ single_atom (paired p a b))

-- what every term of the program is
pub record IsTerm (a : PlainSum) : Type 0 where
  pub normal : IsNormal a
  pub small : nodes a ≤ most_nodes

-- a term, and None where it has more nodes than a term may have
unfoldable pub within_node_limit : PlainSum → Option PlainSum
within_node_limit a = if nat_le (nodes a) most_nodes then Some a else None
