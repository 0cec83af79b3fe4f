use Rattle.std.proofs.Common.{◌≡◌, drop}
use Rattle.std.specs.List.{list_all}
use Rattle.predicate_meaning.specs.Returns.{saved_registers}
use Rattle.pred_step.specs.Restored.{is_restored}
use Rattle.pred_step.proofs.site.are_restored.Given as goal

abbrev pub invariant-loop-r : goal.invariant-loop-r
invariant-loop-r l = list_all (is_restored l.p) (drop l.r-index saved_registers) ≡ list_all (is_restored l.p) saved_registers
