use Rattle.std.proofs.Common.{◌≡◌, ◌+◌, ◌-◌, [], None, sym, ap, ◌∙◌, take, drop, arith}
use Rattle.mem_forest.specs.Plain.{none, PlainNode, cells}
use Rattle.mem_forest.specs.Levels.{inserted}
use Rattle.mem_forest.proofs.SettleLemmas.{inserted_more}
use Rattle.mem_forest.proofs.levels.settle_before.Goals as goal

pub loop-left-preserved : goal.loop-left-preserved
loop-left-preserved c =
    let d : PlainNode = record { names = []; bytes = 0; value = None; under = none } in
    let xs = c.loop-left.nodes.items in
    let i = c.loop-left.left - 1 in
    let next : i + 1 ≡ c.loop-left.left = omega arith in
    record {
      within = omega (arith, c.settle.ensures.len, c.loop-left.invariant.within);
      settled =
          ap (λ ns. inserted ns (cells (drop i c.settle.new.nodes.items))) c.settle.ensures.before
          ∙ ap (inserted (take i xs)) (c.settle.ensures.placed d)
          ∙ sym (inserted_more xs i d (cells (drop (i + 1) xs)) (omega (arith, c.loop-left.nodes.ok.0, c.loop-left.invariant.within)))
          ∙ ap (λ k. inserted (take k xs) (cells (drop k xs))) next ∙ c.loop-left.invariant.settled;
    }
