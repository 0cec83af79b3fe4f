use Rattle.lifted_exact.proofs.ExactLemmas.{exact}
use Rattle.lifted_exact.proofs.FormLemmas.{form}
use Rattle.lifted_exact.proofs.laws.laws_of_lifted.Goals as goal

pub returns-clause-exact : goal.returns-clause-exact
returns-clause-exact c = exact

pub returns-clause-form : goal.returns-clause-form
returns-clause-form c = form
