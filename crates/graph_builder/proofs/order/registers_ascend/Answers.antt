use Rattle.std.proofs.Common.{◌-◌, drop, length-drop, sym, ◌∙◌, arith}
use Rattle.std.specs.Prelude.{nat_lt}
use Rattle.predicates.proofs.BoundLemmas.{in_order_short}
use Rattle.graph_builder.proofs.order.registers_ascend.Goals as goal

pub returns : goal.returns
returns c =
    sym (in_order_short (λ a b. nat_lt a.0 b.0) (drop (c.loop-i.i - 1) c.args.given.now) (omega (arith, length-drop (c.loop-i.i - 1) c.args.given.now))) ∙ c.loop-i.invariant
