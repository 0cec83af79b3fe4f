-- Each condition after a comparison is a lemma.
use Rattle.number_laws.proofs.ComparisonLemmas.{comparison}
use Rattle.number_laws.proofs.laws.comparison_laws.Goals as goal

pub returns : goal.returns
returns c = comparison
