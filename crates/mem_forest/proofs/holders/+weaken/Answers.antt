use Rattle.std.proofs.Common.{◌≡◌, ◌+◌, ◌-◌, ◌<◌, length, slice_set, take, drop, sym, ap, subst, ◌∙◌, ℕ, arith}
use Rattle.std.specs.List.{remove}
use Rattle.std.proofs.lemmas.List.{set-get_or}
use Rattle.mem_forest.specs.Plain.{cells}
use Rattle.mem_forest.specs.Holders.{weakened}
use Rattle.mem_forest.proofs.ForgetLemmas.{take-removed}
use Rattle.mem_forest.proofs.WeakenLemmas.{weaken_goes, still_before}
use Rattle.mem_forest.proofs.holders.+weaken.Goals as goal

pub loop-left-preserved : goal.loop-left-preserved
loop-left-preserved t c =
    let held = cells c.args.held.now in
    let old = c.args.nodes.now.items in
    let xs = c.loop-left.nodes.items in
    let i = c.loop-left.left - 1 in
    let z = c.index_mut-node.result.now in
    let next : c.loop-left.left ≡ i + 1 = omega arith in
    let within : i < length xs = omega (arith, c.loop-left.nodes.ok.0, c.loop-left.invariant.within) in
    let inside : i < length old = omega (arith, c.args.nodes.now.ok.0, c.loop-left.invariant.inside) in
    let P : ℕ → Type 0 = λ k. take k xs ≡ take k old in
    let Q : ℕ → Type 0 = λ k. cells (drop k xs) ≡ weakened held (cells (drop k old)) in
    let before : take (i + 1) xs ≡ take (i + 1) old = subst P next c.loop-left.invariant.before in
    let after : cells (drop (i + 1) xs) ≡ weakened held (cells (drop (i + 1) old)) = subst Q next c.loop-left.invariant.weaker in
    let same = ap (slice_set xs i) c.index_mut-node.ensures.value ∙ set-get_or xs i z in
    let removed : c.remove.new.self.items ≡ remove xs i = c.remove.ensures.items ∙ ap (λ ns. remove ns i) same in
    record {
      within = omega (arith, c.remove.ensures.len, c.loop-left.invariant.within);
      inside = omega (arith, c.loop-left.invariant.inside);
      before = ap (take i) removed ∙ take-removed xs i ∙ still_before held old xs i z z c.index_mut-node.ensures.value within before inside after;
      weaker = ap (λ ns. cells (drop i ns)) removed ∙ weaken_goes held old xs i z z c.index_mut-node.ensures.value within before inside after (sym c.in-None.ensures);
    }
