use Rattle.simulation_example.proofs.LawLemmas.{step}
use Rattle.simulation_example.proofs.laws.step_law.Goals as goal

pub returns : goal.returns
returns c = step
