use Rattle.std.proofs.Common.{◌≡◌, ◌∙◌, ◌+◌, ℕ, suc, List, ◌∷◌, drop, sym, ap, ap₂, arith}
use Rattle.std.specs.List.{flat_map}
use Rattle.std.proofs.Math.Seq.{drop-cons}
use Rattle.graph_data.specs.Order.{pair_cmp}
use Rattle.predicates.specs.Predicate.{Predicate}
use Rattle.site_lines.specs.Ordered.{with_items}
use Rattle.site_lines.specs.Pairs.{pairs_at}
use Rattle.site_lines.specs.Subject.{bare}
use Rattle.site_lines.proofs.OrderedLemmas.{with_items_append}
use Rattle.site_lines.proofs.pairs.pairs_of.Goals as goal

pub loop-pred-preserved : goal.loop-pred-preserved
loop-pred-preserved c =
    let at = pairs_at (bare c.args.program.now.image.now) c.args.i.now in
    let p = c.pred-item.result in
    let k = c.loop-pred.pred-index in
    let rest : List Predicate = drop (k + 1) c.args.preds.now in
    let step : suc k ≡ k + 1 = omega arith in
    let next : drop k c.args.preds.now ≡ p ∷ rest = drop-cons c.args.preds.now k p c.loop-pred-test.true ∙ ap₂ (λ (q : Predicate) (n : ℕ). q ∷ drop n c.args.preds.now) (sym c.pred-item.is) step in
    ap (λ pairs. with_items pair_cmp pairs (flat_map at rest)) c.in_ok-add_pairs.ensures
    ∙ sym (with_items_append pair_cmp c.loop-pred.pairs.items (at p) (flat_map at rest))
    ∙ sym (ap (λ ps. with_items pair_cmp c.loop-pred.pairs.items (flat_map at ps)) next)
    ∙ c.loop-pred.invariant
