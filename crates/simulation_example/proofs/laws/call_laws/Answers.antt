use Rattle.simulation_example.proofs.LawLemmas.{call, outside, syscall}
use Rattle.simulation_example.proofs.laws.call_laws.Goals as goal

pub returns-clause-call : goal.returns-clause-call
returns-clause-call c = call

pub returns-clause-outside : goal.returns-clause-outside
returns-clause-outside c = outside

pub returns-clause-syscall : goal.returns-clause-syscall
returns-clause-syscall c = syscall
