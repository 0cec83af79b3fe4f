use Rattle.instr_at.proofs.AtLemmas.{instr_at_is, one_lookup}
use Rattle.instr_at.proofs.at.instr_at_laws.Goals as goal

pub returns-clause-found : goal.returns-clause-found
returns-clause-found c = instr_at_is c.reading_laws.ensures.found c.reading_laws.ensures.only

pub returns-clause-one : goal.returns-clause-one
returns-clause-one c = one_lookup
