use Rattle.std.proofs.Common.{ap, sym, ◌∙◌}
use Rattle.std.specs.Prelude.{is_some}
use Rattle.predicates.proofs.DecidedLemmas.{decided}
use Rattle.predicates.proofs.pred.Pred.first_missing.Goals as goal

pub returns-clause-none : goal.returns-clause-none
returns-clause-none c =
    let both = decided c.args.self.now c.args.q.now c.find_missing.ensures.sixteen c.find_missing.ensures.forest in
    let same = ap is_some c.find_missing.ensures.first in
    (λ e. both.0 (sym same ∙ e), λ h. same ∙ both.1 h)
