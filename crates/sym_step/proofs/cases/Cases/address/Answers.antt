-- The cases of a fork have one address; each case of a jump by a table has its own.
use Rattle.std.proofs.Common.{◌≡◌, [], ◌∷◌, ◌++◌, map, refl, sym, ap, ◌∙◌, subst}
use Rattle.std.specs.Prelude.{IfSome, slice_get}
use Rattle.std.proofs.lemmas.Option.{get_or_from_slice_get}
use Rattle.step_rules.specs.Cases.{Case, case}
use Rattle.sym_step.specs.declared.cases.Led.{Led}
use Rattle.sym_step.specs.Led.{led_cases}
use Rattle.sym_step.proofs.CaseLemmas.{of_each, of_any}
use Rattle.sym_step.proofs.cases.Cases.address.Goals as goal

pub returns-in-Fork : goal.returns-in-Fork
returns-in-Fork c =
    let P : Case → Type 0 = λ x. c.in-Fork.address ≡ x.address in
    let same : c.args.self.now ≡ map (case c.in-Fork.address) (c.in-Fork.field-1.items ++ c.self.inside.after ∷ []) =
    sym c.self.view_is ∙ ap (λ (l : Led). led_cases l c.self.inside.after) c.in-Fork.is in
    subst (λ cs. IfSome (slice_get cs c.args.case) P) (sym same)
    (of_any P c.in-Fork.address (c.in-Fork.field-1.items ++ c.self.inside.after ∷ []) c.args.case (λ p. refl))

pub returns-in-Each : goal.returns-in-Each
returns-in-Each c =
    let P : Case → Type 0 = λ x. c.index.result.now ≡ x.address in
    let same : c.args.self.now ≡ map (λ a. case a c.self.inside.after) c.in-Each.addresses.items =
    sym c.self.view_is ∙ ap (λ (l : Led). led_cases l c.self.inside.after) c.in-Each.is in
    subst (λ cs. IfSome (slice_get cs c.args.case) P) (sym same)
    (of_each P c.in-Each.addresses.items c.self.inside.after c.args.case (λ a e. c.index.ensures ∙ get_or_from_slice_get c.in-Each.addresses.items c.args.case a c.index.result.now e))
