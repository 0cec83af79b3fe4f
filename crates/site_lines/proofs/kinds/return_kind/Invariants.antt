use Rattle.std.proofs.Common.{◌≡◌, drop}
use Rattle.std.specs.List.{list_all}
use Rattle.pred_step.specs.Restored.{are_restored}
use Rattle.site_lines.proofs.kinds.return_kind.Given as goal

abbrev pub invariant-loop-pred : goal.invariant-loop-pred
invariant-loop-pred l = list_all are_restored (drop l.pred-index l.preds) ≡ list_all are_restored l.preds
