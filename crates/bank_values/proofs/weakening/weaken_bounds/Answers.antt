use Rattle.std.proofs.Common.{arith}
use Rattle.predicates.proofs.WeakenLemmas.{one_goes}
use Rattle.bank_values.specs.Weaken.{holds_limit}
use Rattle.bank_values.proofs.weakening.weaken_bounds.Goals as goal

pub loop-left-preserved-then-not-is_limit_held : goal.loop-left-preserved-then-not-is_limit_held
loop-left-preserved-then-not-is_limit_held c =
    one_goes (holds_limit c.args.held.now) c.args.bounds.now.items c.loop-left.bounds.items c.remove.new.self.items c.loop-left.left c.index.result.now
    c.loop-left.invariant.inside c.loop-left.invariant.before c.loop-left.invariant.weaker c.index.ensures c.if-not-is_limit_held.ensures c.remove.ensures.items (omega arith) c.loop-left.invariant.within

pub loop-left-preserved-then-not-is_limit_held-2 : goal.loop-left-preserved-then-not-is_limit_held-2
loop-left-preserved-then-not-is_limit_held-2 c =
    one_goes (holds_limit c.args.held.now) c.args.bounds.now.items c.loop-left.bounds.items c.remove.new.self.items c.loop-left.left c.index.result.now
    c.loop-left.invariant.inside c.loop-left.invariant.before c.loop-left.invariant.weaker c.index.ensures c.if-not-is_limit_held.ensures c.remove.ensures.items (omega arith) c.loop-left.invariant.within
