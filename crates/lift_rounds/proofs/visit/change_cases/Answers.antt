use Rattle.std.proofs.Common.{map, sym, ap, ◌∙◌}
use Rattle.lift_rounds.specs.Known.{addresses, case_reading}
use Rattle.lift_rounds.proofs.ReadingLemmas.{addresses_reading, cases_at_read}
use Rattle.lift_rounds.proofs.visit.change_cases.Goals as goal

pub returns-clause-nothing : goal.returns-clause-nothing
returns-clause-nothing g c = λ e.
    let read = g.S.Steps.read c.args.steps.now in
    let before = cases_at_read read c.args.made.now.items c.args.vertex c.index.result.now c.requires.vertex c.index.ensures in
    c.put_cases.ensures.here ∙ ap (map (case_reading read)) (sym c.as_slice.ensures.value) ∙ c.cases_change-change.ensures.nothing e ∙ ap (map (case_reading read)) c.as_slice-before.ensures.value ∙ sym before

pub returns-clause-edges : goal.returns-clause-edges
returns-clause-edges g c = λ n.
    let read = g.S.Steps.read c.args.steps.now in
    let before = cases_at_read read c.args.made.now.items c.args.vertex c.index.result.now c.requires.vertex c.index.ensures in
    ap addresses c.put_cases.ensures.here ∙ addresses_reading read c.args.cases.items ∙ ap addresses (sym c.as_slice.ensures.value) ∙ c.cases_change-change.ensures.edges n ∙ ap addresses c.as_slice-before.ensures.value ∙ sym (ap addresses before ∙ addresses_reading read c.index.result.now.cases.items)

pub returns-clause-changed : goal.returns-clause-changed
returns-clause-changed g c = λ e same.
    let read = g.S.Steps.read c.args.steps.now in
    let before = cases_at_read read c.args.made.now.items c.args.vertex c.index.result.now c.requires.vertex c.index.ensures in
    c.cases_change-change.ensures.made e (ap (map (case_reading read)) c.as_slice.ensures.value ∙ sym c.put_cases.ensures.here ∙ same ∙ before ∙ ap (map (case_reading read)) (sym c.as_slice-before.ensures.value))
