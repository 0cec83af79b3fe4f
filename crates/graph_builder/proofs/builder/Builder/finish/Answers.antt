use Rattle.graph_builder.proofs.BuildLemmas.{graph_built}
use Rattle.graph_builder.proofs.builder.Builder.finish.Goals as goal

pub returns-in-Ended-clause-found : goal.returns-in-Ended-clause-found
returns-in-Ended-clause-found c = graph_built c.args.self c.requires c.in-Ended.is
