-- What holds of the order, the normal form and the value of terms.
use Rattle.std.specs.Prelude.{◌≡◌, ◌↔◌, ℕ, ◌+◌, ◌-◌, ◌*◌, ◌%◌, ◌^◌, ◌<◌, ◌≤◌, true, if◌then◌else◌, Some, None}
use Rattle.std.specs.declared.cmp.Ordering.TheVariants.{Equal}
use Rattle.std.specs.Ordering.{is_eq}
use Rattle.std.specs.Cmp.{IsTotalOrder}
use Rattle.sym_terms.specs.declared.kinds.Sym.{Sym}
use Rattle.sym_terms.specs.declared.kinds.Fit.{Fit}
use Rattle.sym_terms.specs.declared.kinds.Pair.{Pair}
use Rattle.sym_terms.specs.Plain.{PlainSum, sum, Summands, none, more, PlainAtom, symbol, single_atom, constant_alone, symbol_alone, IsSymbol}
use Rattle.sym_terms.specs.Limits.{most_nodes}
use Rattle.sym_terms.specs.Nodes.{nodes}
use Rattle.sym_terms.specs.Order.{sum_cmp, atom_cmp}
use Rattle.sym_terms.specs.Mentions.{mentions}
use Rattle.sym_terms.specs.Numbers.{fit_number, pair_number}
use Rattle.sym_terms.specs.Value.{Valuation, value, value_of_symbol}
use Rattle.sym_terms.specs.Normal.{plus, minus, times, plus_times, fit, pair, IsNormal, within_node_limit}
use Rattle.sym_terms.specs.Loose.{normal, HasSymbols}

-- the constant of a term
abbrev pub constant_of : PlainSum → ℕ
constant_of (sum c xs) = c

-- the coefficient of an atom in pieces, 0 where it doesn't stand
abbrev pub coefficient_in : PlainAtom → Summands → ℕ
coefficient_in x none = 0
coefficient_in x (more a k xs) = if is_eq (atom_cmp x a) then k else coefficient_in x xs

-- the coefficient of an atom in a term
abbrev pub coefficient_of : PlainAtom → PlainSum → ℕ
coefficient_of x (sum c xs) = coefficient_in x xs

-- the order of terms is total, and Equal for equal terms alone
pub record OrderLaws : Type 0 where
  pub total : IsTotalOrder sum_cmp
  pub equal : (a b : PlainSum) → (sum_cmp a b ≡ Equal) ↔ (a ≡ b)

-- each operation on normal terms gives a normal term; the normal form is normal, and a normal term
-- is its own
pub record NormalLaws : Type 0 where
  pub symbols : (s : Sym) → IsSymbol s → IsNormal (single_atom (symbol s))
  pub sums : (a : PlainSum) (m : ℕ) (b : PlainSum) → IsNormal a → IsNormal b → IsNormal (plus_times a m b)
  pub fits : (f : Fit) (a : PlainSum) → IsNormal a → IsNormal (fit f a)
  pub pairs : (p : Pair) (a b : PlainSum) → IsNormal a → IsNormal b → IsNormal (pair p a b)
  pub forms : (a : PlainSum) → HasSymbols a → IsNormal (normal a)
  pub own : (a : PlainSum) → IsNormal a → normal a ≡ a

-- a + m * b is the one normal term whose constant and coefficients are those of a plus m times
-- those of b, modulo 2^64
pub record SumLaws : Type 0 where
  pub constants : (a : PlainSum) (m : ℕ) (b : PlainSum)
      → constant_of (plus_times a m b) ≡ (constant_of a + m * constant_of b) % 2 ^ 64
  pub coefficients : (x : PlainAtom) (a : PlainSum) (m : ℕ) (b : PlainSum) → IsNormal a → IsNormal b
      → coefficient_of x (plus_times a m b) ≡ (coefficient_of x a + m * coefficient_of x b) % 2 ^ 64
  pub one : (a b : PlainSum) → IsNormal a → IsNormal b → constant_of a ≡ constant_of b
      → ((x : PlainAtom) → coefficient_of x a ≡ coefficient_of x b) → a ≡ b

-- the values of constants, symbols, sums, differences, multiples, fits, pairs and normal forms; terms
-- with one normal form have one value
pub record ValueLaws (u : Valuation) : Type 0 where
  pub constants : (c : ℕ) → c < 2 ^ 64 → value u (sum c none) ≡ c
  pub symbols : (s : Sym) → IsSymbol s → value u (single_atom (symbol s)) ≡ value_of_symbol u s
  pub sums : (a b : PlainSum) → value u (plus a b) ≡ (value u a + value u b) % 2 ^ 64
  pub differences : (a b : PlainSum) → value u (minus a b) ≡ (value u a + (2 ^ 64 - value u b)) % 2 ^ 64
  pub multiples : (m : ℕ) (a : PlainSum) → value u (times m a) ≡ m * value u a % 2 ^ 64
  pub fits : (f : Fit) (a : PlainSum) → IsNormal a → value u (fit f a) ≡ fit_number f (value u a)
  pub pairs : (p : Pair) (a b : PlainSum) → IsNormal a → IsNormal b
      → value u (pair p a b) ≡ pair_number p (value u a) (value u b)
  pub forms : (a : PlainSum) → HasSymbols a → value u (normal a) ≡ value u a
  pub same : (a b : PlainSum) → HasSymbols a → HasSymbols b → normal a ≡ normal b → value u a ≡ value u b
  -- every value has 64 bits; a term with a constant alone has that value, and a constant difference
  -- is the difference of the values
  pub below : (a : PlainSum) → value u a < 2 ^ 64
  pub known : (a : PlainSum) (c : ℕ) → IsNormal a → constant_alone a ≡ Some c → value u a ≡ c
  pub offsets : (a b : PlainSum) (d : ℕ) → IsNormal a → IsNormal b → constant_alone (minus a b) ≡ Some d
      → value u a ≡ (value u b + d) % 2 ^ 64

-- the value depends on the symbols that the term mentions alone
abbrev pub MentionLaw : Type 0
MentionLaw = (u v : Valuation) (a : PlainSum)
    → ((s : Sym) → mentions s a ≡ true → value_of_symbol u s ≡ value_of_symbol v s) → value u a ≡ value v a

-- within the limit a result is the term itself, and above it None
pub record LimitLaws : Type 0 where
  pub small : (a : PlainSum) → nodes a ≤ most_nodes → within_node_limit a ≡ Some a
  pub large : (a : PlainSum) → most_nodes < nodes a → within_node_limit a ≡ None
  pub some : (a b : PlainSum) → within_node_limit a ≡ Some b → (b ≡ a) × (nodes a ≤ most_nodes)

-- a term is a symbol alone exactly where it is that one atom
abbrev pub SymbolLaw : Type 0
SymbolLaw = (a : PlainSum) (s : Sym) → (symbol_alone a ≡ Some s) ↔ (a ≡ single_atom (symbol s))
