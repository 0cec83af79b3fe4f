-- Each case of a jump by a table has the same predicate; each case of a fork has its own.
use Rattle.std.proofs.Common.{◌≡◌, List, [], ◌∷◌, ◌++◌, map, sym, ap, ◌∙◌, subst}
use Rattle.std.specs.Prelude.{IfSome, slice_get}
use Rattle.predicates.specs.Predicate.{Predicate}
use Rattle.predicates.specs.Missing.{missing}
use Rattle.step_rules.specs.Cases.{Case, case}
use Rattle.sym_step.specs.declared.cases.Led.{Led}
use Rattle.sym_step.specs.Led.{led_cases}
use Rattle.sym_step.proofs.CaseLemmas.{of_each, of_known}
use Rattle.sym_step.proofs.cases.Cases.first_missing.Goals as goal

pub returns-in-Each : goal.returns-in-Each
returns-in-Each c =
    let P : Case → Type 0 = λ x. c.first_missing-in-Each.result ≡ missing x.pred c.args.q.now in
    let same : c.args.self.now ≡ map (λ a. case a c.self.inside.after) c.in-Each.field-0.items = cc (c.self.view_is, c.in-Each.is) in
    subst (λ cs. IfSome (slice_get cs c.args.case) P) (sym same)
    (of_each P c.in-Each.field-0.items c.self.inside.after c.args.case (λ a e. c.first_missing-in-Each.ensures))

pub returns-in-Fork : goal.returns-in-Fork
returns-in-Fork c =
    let P : Case → Type 0 = λ x. c.first_missing-in-Fork.result ≡ missing x.pred c.args.q.now in
    let known : List Predicate = c.in-Fork.others.items ++ c.self.inside.after ∷ [] in
    let same : c.args.self.now ≡ map (case c.in-Fork.field-0) known = sym c.self.view_is ∙ ap (λ (l : Led). led_cases l c.self.inside.after) c.in-Fork.is in
    let here = rw c.as_slice.ensures.value at c.known_in.ensures in
    subst (λ cs. IfSome (slice_get cs c.args.case) P) (sym same)
    (of_known P c.in-Fork.field-0 known c.args.case _ here c.first_missing-in-Fork.ensures)
