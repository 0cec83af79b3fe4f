use Rattle.std.proofs.Common.{arith}
use Rattle.sym_terms.proofs.SumLemmas.{plus_times_normal, plus_times_nodes}
use Rattle.sym_terms.proofs.term.Term.add.Goals as goal

pub small-requires-clause-normal : goal.small-requires-clause-normal
small-requires-clause-normal c = rw c.in_ok-sum.ensures (plus_times_normal _ _ _ c.self.invariant.normal c.other.invariant.normal)

pub small-requires-clause-counts : goal.small-requires-clause-counts
small-requires-clause-counts c = rw c.in_ok-sum.ensures (omega (arith, plus_times_nodes c.self.inside.sum 1 c.other.inside.sum))
