use Rattle.std.proofs.Common.{◌∙◌}
use Rattle.lift_openings.proofs.openings.open_jumps.Goals as goal

pub jumps-preserved : goal.jumps-preserved
jumps-preserved g c =
    let before = c.jumps.invariant in
    let one = c.in_ok-open_first.ensures in
    record {
      continues = g.met.S.Jumps.further c.args.steps.now c.jumps.steps c.open_first.new.steps before.continues one.continues;
      lifted = one.lifted;
      begun = λ address start h. one.begun address start (before.begun address start h);
    }

pub open_first-requires-clause-plain : goal.open_first-requires-clause-plain
open_first-requires-clause-plain g c address =
    g.met.S.Jumps.forks_still c.args.steps.now c.jumps.steps address c.jumps.invariant.continues ∙ c.requires.plain address
