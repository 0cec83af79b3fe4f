use Rattle.std.proofs.Common.{arith}
use Rattle.sym_terms.proofs.PieceLemmas.{nodes_of_one}
use Rattle.sym_terms.proofs.sum.+copy.Goals as goal

pub copy_items-copy-requires : goal.copy_items-copy-requires
copy_items-copy-requires t c =
    (omega (arith, nodes_of_one _ _ _ c.loop-atom-item.is c.loop-atom-test.true), tt)
