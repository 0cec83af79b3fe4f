use Rattle.lift_graph.proofs.ComponentLemmas.{source_at}
use Rattle.lift_graph.proofs.components.is_source_at.Goals as goal

pub returns : goal.returns
returns c = λ t. source_at c.args.places.now c.args.at c.args.vertex _ c.if-places-at.false c.if-place-vertex.false
