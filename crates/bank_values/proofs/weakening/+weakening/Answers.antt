use Rattle.std.proofs.Common.{◌≡◌, ◌+◌, ◌-◌, ◌<◌, length, slice_set, take, drop, sym, ap, subst, ◌∙◌, ℕ, arith}
use Rattle.std.specs.List.{remove}
use Rattle.std.proofs.lemmas.List.{set-get_or}
use Rattle.bank_values.specs.Numbered.{level}
use Rattle.bank_values.specs.Weaken.{weaker_forest}
use Rattle.bank_values.proofs.LeftLemmas.{goes, earlier, take_removed}
use Rattle.bank_values.proofs.weakening.+weakening.Goals as goal

pub loop-left-preserved : goal.loop-left-preserved
loop-left-preserved t c =
    let held = level c.args.held.now in
    let old = c.args.nodes.now.items in
    let xs = c.loop-left.nodes.items in
    let i = c.loop-left.left - 1 in
    let z = c.index_mut-node.result.now in
    let next : c.loop-left.left ≡ i + 1 = omega arith in
    let within : i < length xs = omega (arith, c.loop-left.nodes.ok.0, c.loop-left.invariant.within) in
    let inside : i < length old = omega (arith, c.args.nodes.now.ok.0, c.loop-left.invariant.inside) in
    let P : ℕ → Type 0 = λ k. take k xs ≡ take k old in
    let Q : ℕ → Type 0 = λ k. level (drop k xs) ≡ weaker_forest held (level (drop k old)) in
    let before : take (i + 1) xs ≡ take (i + 1) old = subst P next c.loop-left.invariant.before in
    let after : level (drop (i + 1) xs) ≡ weaker_forest held (level (drop (i + 1) old)) = subst Q next c.loop-left.invariant.weaker in
    let same = ap (slice_set xs i) c.index_mut-node.ensures.value ∙ set-get_or xs i z in
    let removed : c.remove.new.self.items ≡ remove xs i = c.remove.ensures.items ∙ ap (λ ns. remove ns i) same in
    record {
      within = omega (arith, c.remove.ensures.len, c.loop-left.invariant.within);
      inside = omega (arith, c.loop-left.invariant.inside);
      before = ap (take i) removed ∙ take_removed xs i ∙ earlier held old xs i z z c.index_mut-node.ensures.value within before inside after;
      weaker = ap (λ ns. level (drop i ns)) removed ∙ goes held old xs i z z c.index_mut-node.ensures.value within before inside after (sym c.in-None.ensures);
    }
