use Rattle.push_witness.proofs.WitnessLemmas.{witness}
use Rattle.push_witness.proofs.witness.push_meets_the_premises.Goals as goal

pub returns : goal.returns
returns c = witness c.laws_of_entailment.ensures.reflexive
