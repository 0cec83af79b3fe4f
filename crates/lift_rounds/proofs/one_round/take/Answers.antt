use Rattle.std.proofs.Common.{sym, ◌∙◌, arith}
use Rattle.lift_rounds.specs.Known.{reading}
use Rattle.lift_rounds.proofs.ReadingLemmas.{length_reading}
use Rattle.lift_rounds.proofs.RoundLemmas.{worse_found}
use Rattle.lift_rounds.proofs.StepLemmas.{quiet_step}
use Rattle.lift_rounds.proofs.VisitLemmas.{entry_stays}
use Rattle.lift_rounds.proofs.one_round.take.Goals as goal

pub returns-clause-step : goal.returns-clause-step
returns-clause-step g c = λ first change small quiet.
    let t = g.S.Steps in
    let old = c.args.steps.now in
    let new = c.visit.new.steps in
    let before = length_reading (t.read old) c.args.made.now.items in
    let after = length_reading (t.read new) c.visit.new.made.items in
    let rows = c.in_ok-change.ensures.rows in
    quiet_step (λ p q. g.met.S.Steps.falls old p q) small (record {
      quiet = quiet;
      rows = after ∙ rows ∙ sym before;
      within = omega (arith, before, c.requires.rows, c.requires.within);
      marked = omega (arith, c.requires.marks, c.requires.within);
      long = c.requires.marks ∙ sym c.requires.square.keeps;
      fresh = c.requires.fresh;
      ready = c.requires.ready;
      visit = c.in_ok-change.ensures.visited;
      cased = c.in_ok-change.ensures.cased (worse_found change c.in_ok-change.change small).1;
      outcome = c.in_ok-change.ensures.outcome;
      small = (worse_found change c.in_ok-change.change small).1;
    })

pub returns-clause-entry : goal.returns-clause-entry
returns-clause-entry g c = λ none kept.
    let t = g.S.Steps in
    let s = c.args.graph.now in
    entry_stays (t.meaning c.args.steps.now) (reading (t.read c.args.steps.now) c.args.made.now.items) (reading (t.read c.visit.new.steps) c.visit.new.made.items) s.inward.items s.keeps.items c.args.vertex c.in_ok-change.ensures.visited none kept
