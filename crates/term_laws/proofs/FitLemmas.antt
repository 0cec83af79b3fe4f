-- Fits of numbers: how many bits they have, and which numbers a fit leaves as they are.
use Rattle.std.proofs.Common.{◌≡◌, ℕ, ◌^◌, ◌<◌}
use Rattle.bits_core.specs.declared.width.Width.TheVariants.{W8, W16, W32}
use Rattle.number_laws.proofs.LowBitsLemmas.{cut_below, cut_same, sext_below, sext_same}
use Rattle.sym_terms.specs.declared.kinds.Fit.{Fit}
use Rattle.sym_terms.specs.declared.kinds.Fit.TheVariants.{Zx8, Zx16, Zx32, Sx8, Sx16, Sx32}
use Rattle.sym_terms.specs.Numbers.{fit_number}
use Rattle.sym_terms.specs.Normal.{fit_bits, kept_bits}

-- a fit by zeros has the bits of its width
pub fit_number_bits : (f : Fit) (n : ℕ) → fit_number f n < 2 ^ fit_bits f
fit_number_bits Zx8 n = cut_below W8 n
fit_number_bits Zx16 n = cut_below W16 n
fit_number_bits Zx32 n = cut_below W32 n
fit_number_bits Sx8 n = sext_below W8 n
fit_number_bits Sx16 n = sext_below W16 n
fit_number_bits Sx32 n = sext_below W32 n

-- a number of few enough bits stays under a fit
pub fit_number_same : (f : Fit) (n : ℕ) → n < 2 ^ kept_bits f → fit_number f n ≡ n
fit_number_same Zx8 n h = cut_same W8 n h
fit_number_same Zx16 n h = cut_same W16 n h
fit_number_same Zx32 n h = cut_same W32 n h
fit_number_same Sx8 n h = sext_same W8 n h
fit_number_same Sx16 n h = sext_same W16 n h
fit_number_same Sx32 n h = sext_same W32 n h
