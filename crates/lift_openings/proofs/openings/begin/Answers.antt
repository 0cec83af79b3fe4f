use Rattle.lift_openings.proofs.openings.begin.Goals as goal

pub returns-clause-filled : goal.returns-clause-filled
returns-clause-filled g c = c.in_ok-made.ensures.filled (g.S.Steps.meaning c.args.steps.now)
