use Rattle.std.proofs.Common.{◌≡◌}
use Rattle.predicates.specs.Entry.{entry_registers}
use Rattle.graph_builder.proofs.close.entry_registers.Given as goal

abbrev pub invariant-loop-number : goal.invariant-loop-number
invariant-loop-number l = l.regs.items ≡ entry_registers l.number
