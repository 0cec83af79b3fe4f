-- The lanes are the chunk's words, which are compared.
use Rattle.std.proofs.Common.{◌≡◌, List, ℕ, sym, subst, map, not, nat_eq, cond, ltb, ◌-◌, ◌+◌, ◌%◌, ◌^◌, ◌<◌, replicate}
use Rattle.std.specs.List.{list_any}
use Rattle.std.specs.Simd.Lanes.{mask_l, top, zip2}
use Rattle.std.proofs.lemmas.Simd.{Each1-from_get_or}
use Rattle.root_scan.specs.Words.{is_within, words_from}
use Rattle.root_scan.proofs.MaskLemmas.{lanes_within}
use Rattle.root_scan.proofs.lanes.has_word_within.Goals as goal

pub returns : goal.returns
returns c =
    let lo : ℕ = c.args.lo in
    let asked : List ℕ → ℕ → Type 0 = λ ws n. not (nat_eq (mask_l (map (top 63) (zip2 (λ a b. cond (ltb a b) (2 ^ 64 - 1) 0) (zip2 (λ a b. (a + (2 ^ 64 - b)) % 2 ^ 64) ws (replicate 8 lo)) (replicate 8 n))) % 2 ^ 64) 0) ≡ list_any (is_within c.args.lo c.args.hi) (words_from 0 c.args.chunk.now) in
    let bytes = Each1-from_get_or (λ x. x < 256) c.args.chunk.now 0 (λ i inside. c.fits-chunk i) in
    let answer = lanes_within c.args.chunk.now c.args.lo c.args.hi c.told-chunk bytes c.ranges.lo.fits c.ranges.hi.fits in
    let words : asked c.words_of.result (c.args.hi - c.args.lo) = subst (λ ws. asked ws (c.args.hi - c.args.lo)) (sym c.words_of.ensures) answer in
    subst (λ n. asked c.words_of.result n) (sym c.saturating_sub.ensures) words
