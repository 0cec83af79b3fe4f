use Rattle.std.proofs.Common.{◌≡◌, drop, map}
use Rattle.pred_moves.specs.Views.{view_of}
use Rattle.site_lines.specs.Saved.{saved_at, shared}
use Rattle.site_lines.proofs.saved.shared_by.Given as goal

abbrev pub invariant-loop-pred : goal.invariant-loop-pred
invariant-loop-pred l =
    let saved = saved_at (view_of l.view) l.i in
    shared l.regions.items (map saved (drop l.pred-index l.others)) ≡ shared (saved l.first) (map saved l.others)
