use Rattle.std.proofs.Common.{◌∙◌, subst, arith}
use Rattle.function_lifter.specs.Tasks.{IsPending}
use Rattle.function_lifter.proofs.TaskLemmas.{one_more}
use Rattle.function_lifter.proofs.functions.add_roots.Goals as goal

pub loop-root-preserved : goal.loop-root-preserved
loop-root-preserved c = record {
  done = c.in_ok-add.ensures.done ∙ c.loop-root.invariant.done;
  pending = one_more (IsPending c.add.new.task) c.args.roots.now c.loop-root.root-index 0 c.loop-root-test.true
      (λ k d l. c.in_ok-add.ensures.keeps _ (c.loop-root.invariant.pending k d l)) c.in_ok-add.ensures.pending;
}

pub returns-clause-pending : goal.returns-clause-pending
returns-clause-pending c root member =
    subst (λ n. IsPending c.loop-root.task n) member.2 (c.loop-root.invariant.pending member.0 root (omega (arith, member.1, c.loop-root-test.false)))
