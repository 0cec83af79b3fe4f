use Rattle.std.proofs.Common.{sym, ◌∙◌, arith}
use Rattle.std.proofs.lemmas.Bool.{false≢true}
use Rattle.lift_rounds.proofs.AddressLemmas.{readings_more, readings_differ}
use Rattle.lift_rounds.proofs.compare.have_same_cases.Goals as goal

pub loop-i-preserved : goal.loop-i-preserved
loop-i-preserved g c =
    readings_more (g.S.Steps.read c.args.steps.now) c.args.left.now c.args.right.now c.loop-i.i c.index-left-i.result c.index-right-i.result c.loop-i-test.true (omega arith) c.index-left-i.is c.index-right-i.is (c.is_same_case.ensures.0 c.if-not-is_same_case.false) c.loop-i.invariant

pub returns-then-not-is_same_case : goal.returns-then-not-is_same_case
returns-then-not-is_same_case g c = (
  λ t. absurd (false≢true t),
  λ e. absurd (readings_differ (g.S.Steps.read c.args.steps.now) c.args.left.now c.args.right.now c.loop-i.i c.index-left-i.result c.index-right-i.result c.loop-i-test.true (omega arith) c.index-left-i.is c.index-right-i.is (λ s. false≢true (sym c.if-not-is_same_case.true ∙ c.is_same_case.ensures.1 s)) e),
)
