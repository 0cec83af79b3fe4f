use Rattle.image_steps.specs.Walks.{subject_at}
use Rattle.bank_values.specs.ReadBack.{predicate_at}
use Rattle.function_lifter.proofs.RestLemmas.{at_rest}
use Rattle.function_lifter.proofs.entry.lift_walk.Goals as goal

pub returns-clause-rest : goal.returns-clause-rest
returns-clause-rest g c =
    let walk = c.lift_from.new.steps in
    at_rest (g.B.Bank.terms walk.bank.now) (subject_at walk) c.in_ok-lift.lift c.args.entry (predicate_at (g.B.Bank.terms c.args.walk.now.bank.now) c.args.start)
    c.in_ok-lift.ensures.lifted c.in_ok-lift.ensures.begun c.requires.start
