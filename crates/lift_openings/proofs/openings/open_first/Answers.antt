use Rattle.std.proofs.Common.{refl, subst, ◌∙◌}
use Rattle.lift_openings.specs.Lifted.{IsOneMore}
use Rattle.lift_openings.proofs.openings.open_first.Goals as goal

pub loop-address-preserved : goal.loop-address-preserved
loop-address-preserved g c =
    let before = c.loop-address.invariant in
    let one = c.in_ok-try_resolved.ensures in
    record {
      continues = g.met.S.Jumps.further c.args.steps.now c.loop-address.steps c.try_resolved.new.steps before.continues one.continues;
      opened = one.shut c.if-branch.false ∙ before.opened;
      lifted = one.lifted;
      begun = λ address start h. one.begun address start (before.begun address start h);
    }

pub try_resolved-requires-clause-plain : goal.try_resolved-requires-clause-plain
try_resolved-requires-clause-plain g c address =
    g.met.S.Jumps.forks_still c.args.steps.now c.loop-address.steps address c.loop-address.invariant.continues ∙ c.requires.plain address

pub returns-then-branch-clause-opened : goal.returns-then-branch-clause-opened
returns-then-branch-clause-opened g c _ =
    let opened = g.S.Jumps.opened in
    subst (λ before. IsOneMore before (opened c.try_resolved.new.steps)) c.loop-address.invariant.opened (c.in_ok-try_resolved.ensures.opened c.if-branch.true)
