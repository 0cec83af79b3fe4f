use Rattle.std.proofs.Common.{◌-◌, slice_index_or, ap, ◌∙◌, arith}
use Rattle.std.specs.Prelude.{not}
use Rattle.sym_terms.specs.Mentions.{mentions}
use Rattle.predicates.proofs.WeakenLemmas.{one_goes}
use Rattle.pred_moves.proofs.StoreLemmas.{one_stays}
use Rattle.pred_moves.proofs.facts.forget_bounds.Goals as goal

pub loop-left-preserved-then-not-stays : goal.loop-left-preserved-then-not-stays
loop-left-preserved-then-not-stays c =
    one_goes (λ b. not (mentions c.args.s b.key)) c.args.bounds.now c.loop-left.bounds c.remove.new.self c.loop-left.left c.index-as_slice-left.result
    c.loop-left.invariant.inside c.loop-left.invariant.before c.loop-left.invariant.weaker
    (c.index-as_slice-left.is ∙ ap (λ bs. slice_index_or bs (c.loop-left.left - 1) c.index-as_slice-left.result) c.as_slice.ensures)
    c.if-not-stays.ensures c.remove.ensures.rest (omega arith) c.loop-left.invariant.within

pub loop-left-preserved-then-not-stays-2 : goal.loop-left-preserved-then-not-stays-2
loop-left-preserved-then-not-stays-2 c =
    one_goes (λ b. not (mentions c.args.s b.key)) c.args.bounds.now c.loop-left.bounds c.remove.new.self c.loop-left.left c.index-as_slice-left.result
    c.loop-left.invariant.inside c.loop-left.invariant.before c.loop-left.invariant.weaker
    (c.index-as_slice-left.is ∙ ap (λ bs. slice_index_or bs (c.loop-left.left - 1) c.index-as_slice-left.result) c.as_slice.ensures)
    c.if-not-stays.ensures c.remove.ensures.rest (omega arith) c.loop-left.invariant.within

pub loop-left-preserved : goal.loop-left-preserved
loop-left-preserved c =
    one_stays (λ b. not (mentions c.args.s b.key)) c.args.bounds.now c.loop-left.bounds c.loop-left.left c.index-as_slice-left.result
    (omega arith) c.loop-left.invariant.within c.loop-left.invariant.inside c.loop-left.invariant.before c.loop-left.invariant.weaker
    (c.index-as_slice-left.is ∙ ap (λ bs. slice_index_or bs (c.loop-left.left - 1) c.index-as_slice-left.result) c.as_slice.ensures)
    c.if-not-stays.ensures
