use Rattle.std.proofs.Common.{◌≡◌, ◌+◌, ◌*◌, length}
use Rattle.lift_graph.specs.Search.{IsSearch}
use Rattle.lift_graph.specs.Search.{unset}
use Rattle.lift_graph.proofs.search.leads_back.Given as goal

abbrev pub invariant-back : goal.invariant-back
invariant-back l =
    record {
      rows : length l.marks.items ≡ length l.inward;
      search : IsSearch l.inward l.vertex l.marks.items l.waiting.items;
    }

abbrev pub decreases-back : goal.decreases-back
decreases-back l = 2 * unset l.marks.items + length l.waiting.items
