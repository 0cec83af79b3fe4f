use Rattle.std.proofs.Common.{◌≡◌, ◌⊎◌, ℕ, List, Some, map, false, sym, ap, ◌∙◌, subst, inl, inr, arith}
use Rattle.std.proofs.lemmas.List.{get_or_read}
use Rattle.lift_graph.specs.Rows.{is_set, items_at}
use Rattle.lift_graph.specs.Graph.{address_at}
use Rattle.lift_graph.specs.Sites.{site_at, vertices_at}
use Rattle.lift_graph.proofs.RowLemmas.{items_at_read}
use Rattle.lift_rounds.specs.Fixed.{AreCases}
use Rattle.lift_rounds.specs.Known.{reading, cases_from, pred_at, cases_at}
use Rattle.lift_rounds.specs.Visit.{IsOutcome}
use Rattle.lift_rounds.proofs.RoundLemmas.{worse_found}
use Rattle.lift_rounds.proofs.VisitLemmas.{visit_made, visit_outcome}
use Rattle.lift_rounds.proofs.visit.visit.Goals as goal

pub returns-clause-visited : goal.returns-clause-visited
returns-clause-visited g c =
    let t = g.S.Steps in
    let s = c.args.graph.now in
    let v = c.args.vertex in
    let old = c.args.steps.now in
    let new = c.visit_cases.new.steps in
    visit_made (t.meaning old) (reading (t.read old) c.args.made.now.items) (reading (t.read old) c.visit_pred.new.made.items) (reading (t.read new) c.visit_cases.new.made.items)
    c.as_slice-places.result.now (items_at s.inward.items v) c.index-keeps.result.now (is_set s.keeps.items v) v
    (c.as_slice-places.ensures.value ∙ sym (items_at_read s.inward.items v c.index.result.now (omega arith) c.index.ensures))
    (get_or_read s.keeps.items v c.index-keeps.result.now (omega arith) c.index-keeps.ensures false)
    c.in_ok-pred.ensures.visited c.in_ok-cases.ensures.visited

pub returns-clause-outcome : goal.returns-clause-outcome
returns-clause-outcome g c =
    let t = g.S.Steps in
    let s = c.args.graph.now in
    let v = c.args.vertex in
    let old = c.args.steps.now in
    let new = c.visit_cases.new.steps in
    let p = c.in_ok-pred.ensures in
    let q = c.in_ok-cases.ensures in
    subst (λ x. IsOutcome x (is_set s.keeps.items v) (reading (t.read old) c.args.made.now.items) (reading (t.read new) c.visit_cases.new.made.items) v) (sym c.worse_of-change.ensures)
    (visit_outcome (t.meaning old) (reading (t.read old) c.args.made.now.items) (reading (t.read old) c.visit_pred.new.made.items) (reading (t.read new) c.visit_cases.new.made.items)
    c.as_slice-places.result.now c.index-keeps.result.now (is_set s.keeps.items v) v c.in_ok-pred.pred c.in_ok-cases.cases
    (get_or_read s.keeps.items v c.index-keeps.result.now (omega arith) c.index-keeps.ensures false)
    p.visited q.visited
    (record { nothing_pred = p.nothing; known = p.known; head = p.head; changed_pred = p.changed; nothing_cases = q.nothing; edges = q.edges; changed_cases = q.changed; small = q.head }))

pub returns-clause-cased : goal.returns-clause-cased
returns-clause-cased g c = λ n.
    let t = g.S.Steps in
    let s = c.args.graph.now in
    let v = c.args.vertex in
    let m = t.meaning c.args.steps.now in
    let made = reading (t.read c.visit_cases.new.steps) c.visit_cases.new.made.items in
    let site : c.as_slice.result.now ≡ site_at s v = c.as_slice.ensures.value ∙ c.in_ok-site.ensures.found ∙ ap (λ a. vertices_at s.index a s.tags) c.address-address.ensures in
    let small = (worse_found c.in_ok-pred.pred c.in_ok-cases.cases (λ e. n (c.worse_of-change.ensures ∙ e))).1 in
    subst (λ a. cases_from m a (map (pred_at made) (site_at s v)) (pred_at made v) ≡ Some (cases_at made v)) c.address-address.ensures
    (subst (λ (vs : List ℕ). cases_from m c.address-address.result (map (pred_at made) vs) (pred_at made v) ≡ Some (cases_at made v)) site (c.in_ok-cases.ensures.cased small))

pub returns-clause-filled : goal.returns-clause-filled
returns-clause-filled g c =
    let t = g.S.Steps in
    let v = c.args.vertex in
    let m = t.meaning c.args.steps.now in
    let before = reading (t.read c.args.steps.now) c.args.made.now.items in
    let made = reading (t.read c.visit_cases.new.steps) c.visit_cases.new.made.items in
    elim c.in_ok-cases.ensures.filled as (λ _. (cases_at made v ≡ cases_at before v) ⊎ AreCases m (address_at c.args.graph.now.keys.items v) (cases_at made v)) [
      | inl e ↦ inl (e ∙ c.in_ok-pred.ensures.visited.cases v)
      | inr a ↦ inr (subst (λ x. AreCases m x (cases_at made v)) c.address-address.ensures a)
    ]
