use Rattle.std.proofs.Common.{arith}
use Rattle.sym_terms.proofs.PieceLemmas.{nodes_of_one}
use Rattle.sym_terms.proofs.equality.+digest.Goals as goal

pub digest_after-digest_of_atom-of_atom-requires : goal.digest_after-digest_of_atom-of_atom-requires
digest_after-digest_of_atom-of_atom-requires t c =
    (omega (arith, nodes_of_one _ _ _ c.loop-atom-item.is c.loop-atom-test.true), tt)
