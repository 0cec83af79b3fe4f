use Rattle.lift_graph.proofs.SublistLemmas.{kept_step, kept_all}
use Rattle.lift_graph.proofs.links.are_kept.Goals as goal

pub loop-key-preserved : goal.loop-key-preserved
loop-key-preserved c = record {
  within = c.next_kept-kept.ensures.within;
  same = kept_step _ c.args.keys.now c.args.row.now c.args.wanted.now c.loop-key.key-index c.loop-key.kept c.next_kept-kept.result _ c.loop-key-test.true c.loop-key.invariant.same c.next_kept-kept.ensures.same;
}

pub returns : goal.returns
returns c = kept_all _ c.args.keys.now c.args.row.now c.args.wanted.now c.loop-key.key-index c.loop-key.kept c.loop-key-test.false c.loop-key.invariant.within c.loop-key.invariant.same
