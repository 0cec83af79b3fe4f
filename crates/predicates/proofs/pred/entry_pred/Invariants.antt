use Rattle.std.proofs.Common.{◌≡◌}
use Rattle.predicates.specs.Entry.{entry_registers}
use Rattle.predicates.proofs.pred.entry_pred.Given as goal

abbrev pub invariant-loop-number : goal.invariant-loop-number
invariant-loop-number l = l.regs ≡ entry_registers l.number
