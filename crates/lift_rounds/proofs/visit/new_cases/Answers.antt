use Rattle.lift_rounds.proofs.ReadingLemmas.{held_grows, reading_grows}
use Rattle.lift_rounds.proofs.visit.new_cases.Goals as goal

pub returns-clause-made : goal.returns-clause-made
returns-clause-made g c =
    let t = g.S.Steps in
    let old = c.args.steps.now in
    let new = c.cases_of_pred.new.steps in
    held_grows (t.has old) (t.has new) (λ p h. g.met.S.Steps.stays old new p c.in_ok-cases.ensures.grows h) c.args.made.now c.requires.made

pub returns-clause-reads : goal.returns-clause-reads
returns-clause-reads g c =
    let t = g.S.Steps in
    let old = c.args.steps.now in
    let new = c.cases_of_pred.new.steps in
    reading_grows (t.has old) (t.read old) (t.read new) (λ p h. g.met.S.Steps.reads old new p c.in_ok-cases.ensures.grows h) c.args.made.now c.requires.made
