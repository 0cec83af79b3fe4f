use Rattle.std.proofs.Common.{◌≡◌, drop}
use Rattle.std.specs.List.{flat_map}
use Rattle.graph_data.specs.Order.{pair_cmp}
use Rattle.site_lines.specs.Ordered.{ordered, with_items}
use Rattle.site_lines.specs.Pairs.{pairs_at}
use Rattle.site_lines.specs.Subject.{bare}
use Rattle.site_lines.proofs.pairs.pairs_of.Given as goal

abbrev pub invariant-loop-pred : goal.invariant-loop-pred
invariant-loop-pred l =
    let found = flat_map (pairs_at (bare l.program.image.now) l.i) in
    with_items pair_cmp l.pairs.items (found (drop l.pred-index l.preds)) ≡ ordered pair_cmp (found l.preds)
