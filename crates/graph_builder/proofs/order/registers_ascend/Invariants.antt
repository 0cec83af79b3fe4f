use Rattle.std.proofs.Common.{◌≡◌, ◌-◌, drop}
use Rattle.graph_builder.specs.Order.{registers_ascend}
use Rattle.graph_builder.proofs.order.registers_ascend.Given as goal

abbrev pub invariant-loop-i : goal.invariant-loop-i
invariant-loop-i l = registers_ascend (drop (l.i - 1) l.given) ≡ registers_ascend l.given
