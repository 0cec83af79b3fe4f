-- How large the numbers of fits and pairs are.
use Rattle.std.proofs.Common.{ℕ, ◌%◌, ◌^◌, ◌<◌, ℤ, pos, negsuc, arith}
use Rattle.std.proofs.lemmas.Bool.Decides.{nat_tests}
use Rattle.std.proofs.lemmas.Nat.{and_le_l, or_lt, xor_lt}
use Rattle.std.proofs.Math.Nat.{div-le_self}
use Rattle.bits_core.specs.declared.width.Width.TheVariants.{W64}
use Rattle.bits_core.specs.Integers.{residue_of}
use Rattle.sym_terms.specs.declared.kinds.Fit.{Fit}
use Rattle.sym_terms.specs.declared.kinds.Fit.TheVariants.{Zx8, Zx16, Zx32, Sx8, Sx16, Sx32}
use Rattle.sym_terms.specs.declared.kinds.Pair.{Pair}
use Rattle.sym_terms.specs.declared.kinds.Pair.TheVariants.{And, Or, Xor, Mul, Shr, Sar}
use Rattle.sym_terms.specs.Numbers.{fit_number, pair_number}

-- a fit has 64 bits
pub fit_number_below : (f : Fit) (n : ℕ) → fit_number f n < 2 ^ 64
fit_number_below Zx8 n = omega arith
fit_number_below Zx16 n = omega arith
fit_number_below Zx32 n = omega arith
fit_number_below Sx8 n = grind (arith, nat_tests)
fit_number_below Sx16 n = grind (arith, nat_tests)
fit_number_below Sx32 n = grind (arith, nat_tests)

-- the residue of an integer has 64 bits
residue_below : (n : ℤ) → residue_of W64 n < 2 ^ 64
residue_below (pos n) = omega arith
residue_below (negsuc n) = omega arith

-- a pair of numbers of 64 bits has 64 bits
pub pair_number_below : (p : Pair) (x y : ℕ) → x < 2 ^ 64 → y < 2 ^ 64 → pair_number p x y < 2 ^ 64
pair_number_below And x y h i = let e = and_le_l x y in omega arith
pair_number_below Or x y h i = or_lt 64 x y h i
pair_number_below Xor x y h i = xor_lt 64 x y h i
pair_number_below Mul x y h i = omega arith
pair_number_below Shr x y h i = let e = div-le_self (x % 2 ^ 64) (2 ^ (y % 64)) in omega arith
pair_number_below Sar x y h i = residue_below _
