use Rattle.std.proofs.Common.{◌^◌, ◌<◌, arith}
use Rattle.sym_terms.specs.Plain.{sum, none}
use Rattle.sym_terms.proofs.SumLemmas.{plus_times_normal, plus_times_nodes}
use Rattle.sym_terms.proofs.term.Term.add_constant.Goals as goal

pub invariant_of-result : goal.invariant_of-result
invariant_of-result c =
    let below : c.args.c < 2 ^ 64 = omega arith in
    rw c.add_constant.ensures (record {
      normal = plus_times_normal c.self.inside.sum 1 (sum c.args.c none) c.self.invariant.normal (below, tt);
      small = omega (arith, plus_times_nodes c.self.inside.sum 1 (sum c.args.c none), c.self.invariant.small);
    })
