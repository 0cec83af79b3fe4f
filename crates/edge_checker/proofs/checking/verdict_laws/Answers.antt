-- The laws of verdicts.
use Rattle.edge_checker.proofs.ValidLemmas.{one_verdict, valid_verdict, function_verdict, no_break_exactly}
use Rattle.edge_checker.proofs.checking.verdict_laws.Goals as goal

pub returns-clause-one : goal.returns-clause-one
returns-clause-one c = one_verdict c.instr_at_laws.ensures.found c.instr_at_laws.ensures.one

pub returns-clause-valid : goal.returns-clause-valid
returns-clause-valid c = valid_verdict c.instr_at_laws.ensures.found c.instr_at_laws.ensures.one

pub returns-clause-function : goal.returns-clause-function
returns-clause-function c = function_verdict c.instr_at_laws.ensures.found c.instr_at_laws.ensures.one

pub returns-clause-no_break : goal.returns-clause-no_break
returns-clause-no_break c = no_break_exactly c.instr_at_laws.ensures.found
