-- Fits and pairs of terms: their normal form, and how many nodes they have.
use Rattle.std.proofs.Common.{◌≡◌, ℕ, ◌+◌, ◌^◌, ◌<◌, ◌≤◌, Bool, true, false, if◌then◌else◌, Option, Some, None, refl, ap, subst, arith}
use Rattle.std.specs.declared.cmp.Ordering.{Ordering}
use Rattle.std.specs.declared.cmp.Ordering.TheVariants.{Less, Equal, Greater}
use Rattle.std.specs.Ordering.{is_eq}
use Rattle.sym_terms.specs.declared.kinds.Fit.{Fit}
use Rattle.sym_terms.specs.declared.kinds.Pair.{Pair}
use Rattle.sym_terms.specs.declared.kinds.Pair.TheVariants.{And, Or, Xor, Mul, Shr, Sar}
use Rattle.sym_terms.specs.Plain.{PlainSum, sum, none, more, PlainAtom, fitted, paired, constant_alone, single_atom}
use Rattle.sym_terms.specs.Nodes.{nodes}
use Rattle.sym_terms.specs.Order.{sum_cmp}
use Rattle.sym_terms.specs.Normal.{fit_is_identity, fit, pair, pair_by, pair_alone, pair_scaled, IsNormal, IsNormalAtom}
use Rattle.sym_terms.proofs.SumLemmas.{plus_times_normal, plus_times_nodes}
use Rattle.sym_terms.proofs.NumberLemmas.{fit_number_below, pair_number_below}

-- a normal atom alone is a normal term
pub alone_normal : (a : PlainAtom) → IsNormalAtom a → IsNormal (single_atom a)
alone_normal a n = (omega arith, (n, omega arith, omega arith, tt, tt))

-- so is 0
pub zero_normal : IsNormal (sum 0 none)
zero_normal = (omega arith, tt)

-- ---- fits

-- a fit of a normal term is normal
pub fit_normal : (f : Fit) (a : PlainSum) → IsNormal a → IsNormal (fit f a)
unfolding fit
fit_normal f (sum c none) n = (fit_number_below f c, tt)
fit_normal f (sum c (more b k xs)) n =
    (elim (fit_is_identity f (sum c (more b k xs))) as (λ t. fit_is_identity f (sum c (more b k xs)) ≡ t → IsNormal (if t then sum c (more b k xs) else single_atom (fitted f (sum c (more b k xs))))) [
      | true ↦ λ e. n
      | false ↦ λ e. alone_normal (fitted f (sum c (more b k xs))) (n, ap (λ t. if t then sum c (more b k xs) else single_atom (fitted f (sum c (more b k xs)))) e)
    ]) refl

-- a fit adds two nodes at most
pub fit_nodes : (f : Fit) (a : PlainSum) → nodes (fit f a) ≤ nodes a + 2
unfolding fit
fit_nodes f (sum c none) = omega arith
fit_nodes f (sum c (more b k xs)) =
    elim (fit_is_identity f (sum c (more b k xs))) as (λ t. nodes (if t then sum c (more b k xs) else single_atom (fitted f (sum c (more b k xs)))) ≤ nodes (sum c (more b k xs)) + 2) [
      | true ↦ omega arith
      | false ↦ omega arith
    ]

-- ---- pairs

-- the constant of a normal term has 64 bits
pub constant_below : (a : PlainSum) (x : ℕ) → IsNormal a → constant_alone a ≡ Some x → x < 2 ^ 64
constant_below (sum c none) x n e = let f : c ≡ x = cc in subst (λ y. y < 2 ^ 64) f n.0
constant_below (sum c (more b k xs)) x n e = absurd (cc)

-- what a pair of one term with itself is, or the atom
either_normal : (t : Bool) (c : PlainSum) (a : PlainAtom) (whole : PlainSum) → IsNormal c → (whole ≡ (if t then c else single_atom a))
    → (whole ≡ single_atom a → IsNormalAtom a) → IsNormal (if t then c else single_atom a)
either_normal true c a whole n e h = n
either_normal false c a whole n e h = alone_normal a (h e)

-- each result without a constant is normal
pair_alone_normal : (p : Pair) (a b : PlainSum) → IsNormal a → IsNormal b → pair p a b ≡ pair_alone p a b → IsNormal (pair_alone p a b)
pair_alone_normal And a b na nb e = either_normal (is_eq (sum_cmp a b)) a (paired And a b) (pair And a b) na e (λ h. (na, nb, h))
pair_alone_normal Or a b na nb e = either_normal (is_eq (sum_cmp a b)) a (paired Or a b) (pair Or a b) na e (λ h. (na, nb, h))
pair_alone_normal Xor a b na nb e = either_normal (is_eq (sum_cmp a b)) (sum 0 none) (paired Xor a b) (pair Xor a b) zero_normal e (λ h. (na, nb, h))
pair_alone_normal Mul a b na nb e = alone_normal (paired Mul a b) (na, nb, e)
pair_alone_normal Shr a b na nb e = alone_normal (paired Shr a b) (na, nb, e)
pair_alone_normal Sar a b na nb e = alone_normal (paired Sar a b) (na, nb, e)

-- so is each with one constant
pair_scaled_normal : (p : Pair) (x : ℕ) (c a b : PlainSum) → IsNormal c → IsNormal a → IsNormal b → pair p a b ≡ pair_scaled p x c a b → IsNormal (pair_scaled p x c a b)
pair_scaled_normal And x c a b nc na nb e = pair_alone_normal And a b na nb e
pair_scaled_normal Or x c a b nc na nb e = pair_alone_normal Or a b na nb e
pair_scaled_normal Xor x c a b nc na nb e = pair_alone_normal Xor a b na nb e
pair_scaled_normal Mul x c a b nc na nb e = plus_times_normal (sum 0 none) x c zero_normal nc
pair_scaled_normal Shr x c a b nc na nb e = pair_alone_normal Shr a b na nb e
pair_scaled_normal Sar x c a b nc na nb e = pair_alone_normal Sar a b na nb e

-- so is each pair, whatever is constant
pair_by_normal : (p : Pair) (m n : Option ℕ) (a b : PlainSum) → IsNormal a → IsNormal b → constant_alone a ≡ m → constant_alone b ≡ n → pair p a b ≡ pair_by p m n a b → IsNormal (pair_by p m n a b)
pair_by_normal p (Some x) (Some y) a b na nb e f h = (pair_number_below p x y (constant_below a x na e) (constant_below b y nb f), tt)
pair_by_normal p (Some x) None a b na nb e f h = pair_scaled_normal p x b a b nb na nb h
pair_by_normal p None (Some y) a b na nb e f h = pair_scaled_normal p y a a b na na nb h
pair_by_normal p None None a b na nb e f h = pair_alone_normal p a b na nb h

-- a pair of normal terms is normal
pub pair_normal : (p : Pair) (a b : PlainSum) → IsNormal a → IsNormal b → IsNormal (pair p a b)
unfolding pair
pair_normal p a b na nb = pair_by_normal p (constant_alone a) (constant_alone b) a b na nb refl refl refl

-- either result is small where both are
either_nodes : (t : Bool) (c : PlainSum) (a : PlainAtom) (n : ℕ) → nodes c ≤ n → nodes (single_atom a) ≤ n → nodes (if t then c else single_atom a) ≤ n
either_nodes true c a n h i = h
either_nodes false c a n h i = i

-- a pair without a constant adds two nodes at most
pair_alone_nodes : (p : Pair) (a b : PlainSum) → nodes (pair_alone p a b) ≤ nodes a + nodes b + 2
pair_alone_nodes And a b = either_nodes (is_eq (sum_cmp a b)) a (paired And a b) _ (omega arith) (omega arith)
pair_alone_nodes Or a b = either_nodes (is_eq (sum_cmp a b)) a (paired Or a b) _ (omega arith) (omega arith)
pair_alone_nodes Xor a b = either_nodes (is_eq (sum_cmp a b)) (sum 0 none) (paired Xor a b) _ (omega arith) (omega arith)
pair_alone_nodes Mul a b = omega arith
pair_alone_nodes Shr a b = omega arith
pair_alone_nodes Sar a b = omega arith

-- so does one with a constant
pair_scaled_nodes : (p : Pair) (x : ℕ) (c a b : PlainSum) → nodes c ≤ nodes a + nodes b → nodes (pair_scaled p x c a b) ≤ nodes a + nodes b + 2
pair_scaled_nodes And x c a b h = pair_alone_nodes And a b
pair_scaled_nodes Or x c a b h = pair_alone_nodes Or a b
pair_scaled_nodes Xor x c a b h = pair_alone_nodes Xor a b
pair_scaled_nodes Mul x c a b h = omega (arith, plus_times_nodes (sum 0 none) x c)
pair_scaled_nodes Shr x c a b h = pair_alone_nodes Shr a b
pair_scaled_nodes Sar x c a b h = pair_alone_nodes Sar a b

-- so does each pair, whatever is constant
pair_by_nodes : (p : Pair) (m n : Option ℕ) (a b : PlainSum) → nodes (pair_by p m n a b) ≤ nodes a + nodes b + 2
pair_by_nodes p (Some x) (Some y) a b = omega arith
pair_by_nodes p (Some x) None a b = pair_scaled_nodes p x b a b (omega arith)
pair_by_nodes p None (Some y) a b = pair_scaled_nodes p y a a b (omega arith)
pair_by_nodes p None None a b = pair_alone_nodes p a b

-- a pair adds two nodes at most
pub pair_nodes : (p : Pair) (a b : PlainSum) → nodes (pair p a b) ≤ nodes a + nodes b + 2
unfolding pair
pair_nodes p a b = pair_by_nodes p (constant_alone a) (constant_alone b) a b

-- orders that are Equal
pub equal_from : (o : Ordering) → is_eq o ≡ true → o ≡ Equal
equal_from Less e = absurd (cc)
equal_from Equal e = refl
equal_from Greater e = absurd (cc)
