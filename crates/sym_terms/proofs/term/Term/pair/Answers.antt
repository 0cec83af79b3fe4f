use Rattle.std.proofs.Common.{arith}
use Rattle.sym_terms.proofs.AtomLemmas.{pair_normal, pair_nodes}
use Rattle.sym_terms.proofs.term.Term.pair.Goals as goal

pub small-requires-clause-normal : goal.small-requires-clause-normal
small-requires-clause-normal c = rw c.in_ok-sum.ensures (pair_normal _ _ _ c.self.invariant.normal c.other.invariant.normal)

pub small-requires-clause-counts : goal.small-requires-clause-counts
small-requires-clause-counts c = rw c.in_ok-sum.ensures (omega (arith, pair_nodes c.args.p c.self.inside.sum c.other.inside.sum))
