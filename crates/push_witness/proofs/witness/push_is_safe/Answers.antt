use Rattle.push_witness.specs.Witness.{image, graph}
use Rattle.push_witness.proofs.witness.push_is_safe.Goals as goal

pub returns : goal.returns
returns c =
    let given = c.push_meets_the_premises.ensures in
    c.runs_are_safe.ensures image graph given.image_formed given.graph_formed given.valid
