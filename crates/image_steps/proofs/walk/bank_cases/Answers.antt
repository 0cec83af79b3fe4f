use Rattle.std.proofs.Common.{length, map, subst}
use Rattle.std.specs.Prelude.{IfSome}
use Rattle.std.specs.List.{All}
use Rattle.std.proofs.lemmas.List.Elements.{All-same}
use Rattle.bank_step.specs.CasesAt.{IsCaseBelow, IsCasePred}
use Rattle.image_steps.specs.Walks.{IsNumbered}
use Rattle.image_steps.proofs.CaseLemmas.{as_case, numbered_each}
use Rattle.image_steps.proofs.walk.bank_cases.Goals as goal

pub returns-in_ok-cases-in-Some-clause-inside : goal.returns-in_ok-cases-in-Some-clause-inside
returns-in_ok-cases-in-Some-clause-inside g c =
    let terms = g.B.Bank.terms c.found_cases.new.bank in
    let below = subst (λ o. IfSome o (λ out. All (IsCaseBelow (length terms)) out.items)) c.in-Some.is c.in_ok-found.ensures.within in
    let formed = subst (λ o. IfSome o (λ out. All (IsCasePred terms) out.items)) c.in-Some.is c.in_ok-found.ensures.formed in
    All-same (λ x. IsNumbered terms x.pred) c.in_ok-cases-in-Some.cases.items (map as_case c.in-Some.found.items) c.in_ok-cases-in-Some.ensures
    (numbered_each terms c.in-Some.found.items below formed)
