use Rattle.std.proofs.Common.{◌≤◌, ◌↔◌, Some, length, drop, map, slice_get}
use Rattle.lift_graph.specs.Links.{IsSublist}
use Rattle.lift_graph.proofs.links.are_kept.Given as goal

abbrev pub invariant-loop-key : goal.invariant-loop-key
invariant-loop-key l =
    record {
      within : l.kept ≤ length l.row;
      same : IsSublist (map (slice_get l.keys) l.row) (map Some l.wanted) ↔ IsSublist (map (slice_get l.keys) (drop l.kept l.row)) (map Some (drop l.key-index l.wanted));
    }
