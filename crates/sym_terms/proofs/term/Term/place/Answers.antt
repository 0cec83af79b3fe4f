use Rattle.std.proofs.Common.{arith}
use Rattle.sym_terms.proofs.AddressLemmas.{place_normal, place_nodes}
use Rattle.sym_terms.proofs.term.Term.place.Goals as goal

pub small-requires-clause-normal : goal.small-requires-clause-normal
small-requires-clause-normal c =
    rw c.in_ok-sum.ensures (place_normal _ _ _ _ _ c.self.invariant.normal c.index.invariant.normal (omega arith))

pub small-requires-clause-counts : goal.small-requires-clause-counts
small-requires-clause-counts c =
    rw c.in_ok-sum.ensures (omega (arith, place_nodes c.self.inside.sum c.args.k c.index.inside.sum c.args.disp c.args.fs))
