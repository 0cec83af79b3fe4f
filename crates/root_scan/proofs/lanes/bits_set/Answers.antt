-- The lanes are the chunk's words, whose bits are counted.
use Rattle.std.proofs.Common.{◌≡◌, List, ℕ, sym, subst, map, count_ones, Fits, w64, ◌+◌, ◌<◌, get_or}
use Rattle.std.specs.Simd.Lanes.{Each1, fold_l, Steps}
use Rattle.std.proofs.lemmas.Simd.{Each1-from_get_or}
use Rattle.root_scan.specs.Bits.{bits_set}
use Rattle.root_scan.proofs.BitLemmas.{lanes_sum, lanes_fit}
use Rattle.root_scan.proofs.lanes.bits_set.Goals as goal

bytes : (xs : List ℕ) → ((i : ℕ) → get_or xs i 0 < 256) → Each1 (λ x. x < 256) xs
bytes xs fits = Each1-from_get_or (λ x. x < 256) xs 0 (λ i inside. fits i)

pub overflow_add-result : goal.overflow_add-result
overflow_add-result c =
    let P : List ℕ → Type 0 = λ ws. Steps (λ s x. Fits w64 (s + x)) (λ s x. s + x) 0 (map (λ x. x) (map count_ones ws)) in
    subst P (sym c.words_of.ensures) (lanes_fit c.args.chunk.now c.told-chunk (bytes c.args.chunk.now c.fits-chunk))

pub returns : goal.returns
returns c =
    let P : List ℕ → Type 0 = λ ws. fold_l (λ s x. s + x) 0 (map (λ x. x) (map count_ones ws)) ≡ bits_set c.args.chunk.now in
    subst P (sym c.words_of.ensures) (lanes_sum c.args.chunk.now c.told-chunk (bytes c.args.chunk.now c.fits-chunk))
