use Rattle.lifted_exact.specs.Looked.{ArePairTerms}
use Rattle.std.proofs.Common.{subst, sym}
use Rattle.function_lifter.proofs.EachLemmas.{each_more}
use Rattle.function_lifter.proofs.forms.look_at_pairs.Goals as goal

pub loop-pair-preserved : goal.loop-pair-preserved
loop-pair-preserved c =
    each_more ArePairTerms c.args.pairs.now c.loop-pair.pair-index c.pair-item.result c.loop-pair-test.true c.pair-item.is c.loop-pair.invariant (c.as_sum.ensures.term, c.as_sum-in-loop-pair.ensures.term)
