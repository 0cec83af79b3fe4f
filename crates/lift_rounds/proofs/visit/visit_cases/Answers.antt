use Rattle.std.proofs.Common.{◌≡◌, Some, map, sym, ap, ◌∙◌, subst, inl, inr}
use Rattle.std.specs.declared.vec.Vec.{Vec}
use Rattle.std.specs.declared.alloc.Global.{Global}
use Rattle.lift_rounds.specs.Fixed.{AreCases}
use Rattle.lift_rounds.specs.Known.{addresses, case_reading, cases_at, cases_from, pred_at, reading}
use Rattle.lift_rounds.specs.declared.data.Case.{Case}
use Rattle.lift_rounds.proofs.ReadingLemmas.{grown, cases_made, has_cases, told}
use Rattle.lift_rounds.proofs.visit.visit_cases.Goals as goal

pub returns-in-None-clause-visited : goal.returns-in-None-clause-visited
returns-in-None-clause-visited g c =
    let t = g.S.Steps in
    let reads = grown (t.read c.args.steps.now) (t.read c.new_cases.new.steps) c.as_slice.result.now c.args.made.now.items c.as_slice.ensures.value c.in_ok-found.ensures.reads in
    record { others = λ u n. ap (λ l. cases_at l u) reads; preds = λ u. ap (λ l. pred_at l u) reads }

pub returns-in-None-clause-filled : goal.returns-in-None-clause-filled
returns-in-None-clause-filled g c =
    let t = g.S.Steps in
    inl (ap (λ l. cases_at l c.args.vertex) (grown (t.read c.args.steps.now) (t.read c.new_cases.new.steps) c.as_slice.result.now c.args.made.now.items c.as_slice.ensures.value c.in_ok-found.ensures.reads))

pub returns-in-Some-clause-visited : goal.returns-in-Some-clause-visited
returns-in-Some-clause-visited g c =
    let t = g.S.Steps in
    let old = c.args.steps.now in
    let new = c.new_cases.new.steps in
    let e = c.change_cases-change.ensures in
    cases_made c.args.vertex _ _ _ (grown (t.read old) (t.read new) c.as_slice.result.now c.args.made.now.items c.as_slice.ensures.value c.in_ok-found.ensures.reads) e.others e.preds

pub returns-in-Some-clause-cased : goal.returns-in-Some-clause-cased
returns-in-Some-clause-cased g c = λ _.
    let t = g.S.Steps in
    let old = c.args.steps.now in
    let new = c.new_cases.new.steps in
    let e = c.change_cases-change.ensures in
    has_cases (t.meaning old) (t.read old) (t.read new) c.args.address c.args.site.now c.args.vertex c.as_slice.result.now c.args.made.now.items c.change_cases-change.new.made.items (map (case_reading (t.read new)) c.in-Some.cases.items)
    c.as_slice.ensures.value c.in_ok-found.ensures.reads
    (told (λ (cs : Vec (Case g.row.S-Pred.Denot) Global). cases_from (t.meaning old) c.args.address (map (pred_at (reading (t.read old) c.as_slice.result.now)) c.args.site.now) (pred_at (reading (t.read old) c.as_slice.result.now) c.args.vertex) ≡ Some (map (case_reading (t.read new)) cs.items)) c.in_ok-found.found c.in-Some.cases c.in-Some.is c.in_ok-found.ensures.value) e.here e.preds

pub returns-in-Some-clause-filled : goal.returns-in-Some-clause-filled
returns-in-Some-clause-filled g c =
    let t = g.S.Steps in
    inr (subst (AreCases (t.meaning c.args.steps.now) c.args.address) (sym c.change_cases-change.ensures.here)
    (told (λ (cs : Vec (Case g.row.S-Pred.Denot) Global). AreCases (t.meaning c.args.steps.now) c.args.address (map (case_reading (t.read c.new_cases.new.steps)) cs.items)) c.in_ok-found.found c.in-Some.cases c.in-Some.is c.in_ok-found.ensures.filled))

pub returns-in-Some-clause-nothing : goal.returns-in-Some-clause-nothing
returns-in-Some-clause-nothing g c = λ e.
    let t = g.S.Steps in
    let reads = grown (t.read c.args.steps.now) (t.read c.new_cases.new.steps) c.as_slice.result.now c.args.made.now.items c.as_slice.ensures.value c.in_ok-found.ensures.reads in
    c.change_cases-change.ensures.nothing e ∙ ap (λ l. cases_at l c.args.vertex) reads

pub returns-in-Some-clause-edges : goal.returns-in-Some-clause-edges
returns-in-Some-clause-edges g c = λ n.
    let t = g.S.Steps in
    let reads = grown (t.read c.args.steps.now) (t.read c.new_cases.new.steps) c.as_slice.result.now c.args.made.now.items c.as_slice.ensures.value c.in_ok-found.ensures.reads in
    c.change_cases-change.ensures.edges n ∙ ap (λ l. addresses (cases_at l c.args.vertex)) reads

pub returns-in-Some-clause-changed : goal.returns-in-Some-clause-changed
returns-in-Some-clause-changed g c = λ e same.
    let t = g.S.Steps in
    let reads = grown (t.read c.args.steps.now) (t.read c.new_cases.new.steps) c.as_slice.result.now c.args.made.now.items c.as_slice.ensures.value c.in_ok-found.ensures.reads in
    c.change_cases-change.ensures.changed e (same ∙ sym (ap (λ l. cases_at l c.args.vertex) reads))
