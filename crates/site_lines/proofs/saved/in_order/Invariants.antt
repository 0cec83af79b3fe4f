use Rattle.std.proofs.Common.{◌≡◌, length}
use Rattle.std.specs.Vec.Iter.{into_iter_items, into_iter_len}
use Rattle.graph_data.specs.Order.{region_cmp}
use Rattle.site_lines.specs.Ordered.{ordered, with_items}
use Rattle.site_lines.proofs.saved.in_order.Given as goal

abbrev pub invariant-loop-region : goal.invariant-loop-region
invariant-loop-region l =
    (with_items region_cmp l.sorted.items (into_iter_items l.region-iterator) ≡ ordered region_cmp (into_iter_items l.initial.region-iterator))
    × (into_iter_len l.region-iterator ≡ length (into_iter_items l.region-iterator))
