use Rattle.safe_runs.proofs.FormLemmas.{graph_forms}
use Rattle.safe_runs.proofs.laws.runs_are_safe.Goals as goal

pub returns : goal.returns
returns c = λ image graph formed well valid.
    c.simulation.ensures.simulates (record { image = image }) (c.rule_laws.ensures image formed) graph (graph_forms image graph well) valid
