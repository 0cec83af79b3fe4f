use Rattle.std.proofs.Common.{◌≡◌, List, length, map}
use Rattle.std.specs.Prelude.{filter}
use Rattle.std.specs.Vec.Iter.{into_iter_items, into_iter_len}
use Rattle.memory_regions.specs.declared.region.Region.{Region}
use Rattle.memory_regions.specs.Context.{known}
use Rattle.graph_data.specs.Order.{pair_cmp}
use Rattle.site_lines.specs.Ordered.{with_items}
use Rattle.site_lines.specs.Pairs.{is_threat}
use Rattle.site_lines.proofs.pairs.add_threats.Given as goal

abbrev pub invariant-loop-cell : goal.invariant-loop-cell
invariant-loop-cell l =
    let found : List Region → List (Region × Region) = λ cells. map (λ a. (l.region, a)) (filter (is_threat (known l.context) l.stored l.region) cells) in
    (with_items pair_cmp l.pairs.items (found (into_iter_items l.cell-iterator)) ≡ with_items pair_cmp l.initial.pairs.items (found (into_iter_items l.initial.cell-iterator)))
    × (into_iter_len l.cell-iterator ≡ length (into_iter_items l.cell-iterator))
