use Rattle.std.proofs.Common.{arith}
use Rattle.sym_terms.proofs.AtomLemmas.{fit_normal, fit_nodes}
use Rattle.sym_terms.proofs.term.Term.fit.Goals as goal

pub small-requires-clause-normal : goal.small-requires-clause-normal
small-requires-clause-normal c = rw c.in_ok-sum.ensures (fit_normal _ _ c.self.invariant.normal)

pub small-requires-clause-counts : goal.small-requires-clause-counts
small-requires-clause-counts c = rw c.in_ok-sum.ensures (omega (arith, fit_nodes c.args.f c.self.inside.sum))
