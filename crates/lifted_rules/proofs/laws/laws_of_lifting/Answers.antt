use Rattle.lifted_rules.proofs.LawLemmas.{valid, code}
use Rattle.lifted_rules.proofs.laws.laws_of_lifting.Goals as goal

pub returns : goal.returns
returns c = record { valid = valid c.instr_at_laws.ensures.found; code = code }
