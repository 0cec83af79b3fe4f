use Rattle.graph_runs.proofs.MachineLemmas.{state_holds, push_holds, begin_holds}
use Rattle.graph_runs.proofs.EntryLemmas.{entry_holds}
use Rattle.graph_runs.proofs.EntailLemmas.{entails_holds}
use Rattle.graph_runs.proofs.ReturnLemmas.{return_holds}
use Rattle.graph_runs.proofs.laws.world_laws.Goals as goal

pub returns-clause-state : goal.returns-clause-state
returns-clause-state c = state_holds c.instr_at_laws.ensures.found c.spelled_in_form.ensures c.step_laws.ensures.states

pub returns-clause-push : goal.returns-clause-push
returns-clause-push c = push_holds c.instr_at_laws.ensures.found c.step_laws.ensures.calls

pub returns-clause-begin : goal.returns-clause-begin
returns-clause-begin c = begin_holds

pub returns-clause-entry : goal.returns-clause-entry
returns-clause-entry c = entry_holds c.laws_of_terms.ensures.normal c.laws_of_terms.ensures.values

pub returns-clause-entails : goal.returns-clause-entails
returns-clause-entails c = entails_holds

pub returns-clause-restores : goal.returns-clause-restores
returns-clause-restores c = return_holds c.laws_of_terms.ensures.values c.step_laws.ensures.returns
