-- Operations on terms that may be unknown (None): unknown where an operand is, or where the result has over 32 nodes.
use Rattle.std.specs.Prelude.{ℕ, Option, Some, None}
use Rattle.bits_core.specs.declared.width.Width.{Width}
use Rattle.bits_core.specs.declared.width.Width.TheVariants.{W8, W16, W32, W64}
use Rattle.sym_terms.specs.declared.kinds.Fit.TheVariants.{Zx8, Zx16, Zx32, Sx8, Sx16, Sx32}
use Rattle.sym_terms.specs.Plain.{PlainSum, sum, none}
use Rattle.sym_terms.specs.Normal.{plus, minus, fit, within_node_limit}

-- a number as a term
abbrev pub number : ℕ → PlainSum
number n = sum n none

-- an operation on a term that may be unknown
abbrev pub apply : (PlainSum → PlainSum) → Option PlainSum → Option PlainSum
apply f None = None
apply f (Some a) = within_node_limit (f a)

-- an operation on two terms that may be unknown
abbrev pub apply_both : (PlainSum → PlainSum → PlainSum) → Option PlainSum → Option PlainSum → Option PlainSum
apply_both f None b = None
apply_both f (Some a) b = apply (f a) b

-- the low bits of a term, extended by zeros
abbrev pub zeros_term : Width → PlainSum → PlainSum
zeros_term W8 a = fit Zx8 a
zeros_term W16 a = fit Zx16 a
zeros_term W32 a = fit Zx32 a
zeros_term W64 a = a

-- the low bits of a term, extended by their sign
abbrev pub sign_term : Width → PlainSum → PlainSum
sign_term W8 a = fit Sx8 a
sign_term W16 a = fit Sx16 a
sign_term W32 a = fit Sx32 a
sign_term W64 a = a

-- the low bits of a term that may be unknown, extended by zeros
abbrev pub cut_term : Width → Option PlainSum → Option PlainSum
cut_term w t = apply (zeros_term w) t

-- the same, extended by their sign
abbrev pub sext_term : Width → Option PlainSum → Option PlainSum
sext_term w t = apply (sign_term w) t

-- the sum of a term and a number
abbrev pub plus_number : ℕ → Option PlainSum → Option PlainSum
plus_number n t = apply (λ a. plus a (number n)) t

-- a term less a number
abbrev pub minus_number : ℕ → Option PlainSum → Option PlainSum
minus_number n t = apply (λ a. minus a (number n)) t
