use Rattle.std.proofs.Common.{ap, arith}
use Rattle.sym_terms.specs.Nodes.{nodes_of_pieces}
use Rattle.sym_terms.proofs.PieceLemmas.{pieces_at, pieces_end}
use Rattle.sym_terms.proofs.sum.+size.Goals as goal

pub size_of_pieces-overflow_add-total : goal.size_of_pieces-overflow_add-total
size_of_pieces-overflow_add-total t c =
    let here = ap nodes_of_pieces (pieces_at _ _ _ c.loop-atom-item.is c.loop-atom-test.true) in omega arith

pub size_of_pieces-loop-atom-preserved : goal.size_of_pieces-loop-atom-preserved
size_of_pieces-loop-atom-preserved t c =
    let here = ap nodes_of_pieces (pieces_at _ _ _ c.loop-atom-item.is c.loop-atom-test.true) in omega arith

pub size_of_pieces-returns : goal.size_of_pieces-returns
size_of_pieces-returns t c =
    let end = ap nodes_of_pieces (pieces_end c.args.atoms.now c.loop-atom.atom-index (omega arith)) in omega arith
