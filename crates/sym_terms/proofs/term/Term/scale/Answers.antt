use Rattle.std.proofs.Common.{arith}
use Rattle.sym_terms.specs.Plain.{sum, none}
use Rattle.sym_terms.proofs.SumLemmas.{plus_times_normal, plus_times_nodes}
use Rattle.sym_terms.proofs.AtomLemmas.{zero_normal}
use Rattle.sym_terms.proofs.term.Term.scale.Goals as goal

pub small-requires-clause-normal : goal.small-requires-clause-normal
small-requires-clause-normal c = rw (c.in_ok-sum.ensures, c.constant.ensures) (plus_times_normal _ _ _ zero_normal c.self.invariant.normal)

pub small-requires-clause-counts : goal.small-requires-clause-counts
small-requires-clause-counts c =
    rw (c.in_ok-sum.ensures, c.constant.ensures) (omega (arith, plus_times_nodes (sum 0 none) c.args.k c.self.inside.sum))
