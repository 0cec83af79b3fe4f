use Rattle.std.proofs.Common.{◌≡◌, length}
use Rattle.predicates.specs.Entry.{entry_registers}
use Rattle.graph_builder.proofs.CloseLemmas.{filled_over}
use Rattle.graph_builder.proofs.extend.fill.Given as goal

abbrev pub invariant-loop-register : goal.invariant-loop-register
invariant-loop-register l = filled_over l.given l.regs.items ≡ filled_over l.initial.given (entry_registers 16)

abbrev pub decreases-loop-register : goal.decreases-loop-register
decreases-loop-register l = length l.given
