use Rattle.predicates.proofs.DecidedLemmas.{decided}
use Rattle.entailment_laws.proofs.LawLemmas.{reflexive, transitive, same}
use Rattle.entailment_laws.proofs.WeakenLemmas.{own, other, unchanged}
use Rattle.entailment_laws.proofs.GreatestLemmas.{greatest}
use Rattle.entailment_laws.proofs.laws.laws_of_entailment.Goals as goal

pub returns : goal.returns
returns c = record {
  reflexive = reflexive;
  transitive = transitive;
  decided = decided;
  same = same;
  own = own;
  other = other;
  unchanged = unchanged;
  greatest = greatest;
}
