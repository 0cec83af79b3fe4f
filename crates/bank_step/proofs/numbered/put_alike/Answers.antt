use Rattle.std.proofs.Common.{map, ap, ◌∙◌}
use Rattle.predicates.specs.Predicate.{Predicate}
use Rattle.step_rules.specs.Cases.{case}
use Rattle.bank_step.proofs.numbered.put_alike.Goals as goal

pub returns-clause-value : goal.returns-clause-value
returns-clause-value g c =
    c.in_ok-out.ensures.value (g.B.Bank.terms c.renumber.new.bank) ∙ ap (λ (p : Predicate). map (λ a. case a p) c.args.addresses.now) c.in_ok-numbered.ensures.value
