use Rattle.std.proofs.Common.{◌-◌, slice_index_or, ap, ◌∙◌, arith}
use Rattle.predicates.specs.Holding.{holds_bound}
use Rattle.predicates.proofs.WeakenLemmas.{one_goes}
use Rattle.predicates.proofs.weaken.weaken_bounds.Goals as goal

pub loop-left-preserved-then-not-is_held : goal.loop-left-preserved-then-not-is_held
loop-left-preserved-then-not-is_held c =
    one_goes (λ b. holds_bound c.args.held.now b) c.args.bounds.now c.loop-left.bounds c.remove.new.self c.loop-left.left c.index-as_slice-left.result
    c.loop-left.invariant.inside c.loop-left.invariant.before c.loop-left.invariant.weaker
    (c.index-as_slice-left.is ∙ ap (λ bs. slice_index_or bs (c.loop-left.left - 1) c.index-as_slice-left.result) c.as_slice.ensures)
    c.if-not-is_held.ensures c.remove.ensures.rest (omega arith) c.loop-left.invariant.within

pub loop-left-preserved-then-not-is_held-2 : goal.loop-left-preserved-then-not-is_held-2
loop-left-preserved-then-not-is_held-2 c =
    one_goes (λ b. holds_bound c.args.held.now b) c.args.bounds.now c.loop-left.bounds c.remove.new.self c.loop-left.left c.index-as_slice-left.result
    c.loop-left.invariant.inside c.loop-left.invariant.before c.loop-left.invariant.weaker
    (c.index-as_slice-left.is ∙ ap (λ bs. slice_index_or bs (c.loop-left.left - 1) c.index-as_slice-left.result) c.as_slice.ensures)
    c.if-not-is_held.ensures c.remove.ensures.rest (omega arith) c.loop-left.invariant.within
