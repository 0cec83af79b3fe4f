use Rattle.std.proofs.Common.{Err, ap, ◌∙◌}
use Rattle.lift_openings.proofs.openings.lift_from.Goals as goal

pub returns-clause-begun : goal.returns-clause-begun
returns-clause-begun g c =
    let start = g.S.Steps.read c.args.steps.now c.args.start in
    c.in_ok-open_jumps.ensures.begun c.args.entry start (c.in-Ok.ensures.begun c.args.entry start c.in_ok-lift.ensures.begun)

pub unreachable-requires : goal.unreachable-requires
unreachable-requires g c =
    c.settle.ensures.lost (c.in-Err-Lost.is ∙ ap Err c.in-Err-Lost.field-0-is) c.in_ok-lift.ensures.filled (g.met.S.Jumps.fixed c.args.steps.now c.requires.shut)

pub returns-in_err-open_jumps-clause-continues : goal.returns-in_err-open_jumps-clause-continues
returns-in_err-open_jumps-clause-continues g c =
    let j = g.met.S.Jumps in
    let a = c.args.steps.now in
    let b = c.settle.new.steps in
    j.further a b c.open_jumps.new.steps (j.grown a b c.settle.ensures.grows) c.open_jumps.ensures.continues

pub returns-clause-continues : goal.returns-clause-continues
returns-clause-continues g c =
    let j = g.met.S.Jumps in
    let a = c.args.steps.now in
    let b = c.settle.new.steps in
    j.further a b c.open_jumps.new.steps (j.grown a b c.settle.ensures.grows) c.open_jumps.ensures.continues
