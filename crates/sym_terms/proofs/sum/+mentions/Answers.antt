use Rattle.std.proofs.Common.{arith}
use Rattle.sym_terms.proofs.PieceLemmas.{nodes_of_one, pieces_at, pieces_end}
use Rattle.sym_terms.proofs.sum.+mentions.Goals as goal

pub mentions_in_pieces-returns-then-mentions : goal.mentions_in_pieces-returns-then-mentions
mentions_in_pieces-returns-then-mentions t c =
    let here = rw (pieces_at _ _ _ c.loop-atom-item.is c.loop-atom-test.true) at c.loop-atom.invariant in
    rw (← here, ← c.mentions.ensures, c.if-mentions.true)

pub mentions_in_pieces-loop-atom-preserved : goal.mentions_in_pieces-loop-atom-preserved
mentions_in_pieces-loop-atom-preserved t c =
    let here = rw (pieces_at _ _ _ c.loop-atom-item.is c.loop-atom-test.true) at c.loop-atom.invariant in
    rw (← c.mentions.ensures, c.if-mentions.false) at here

pub mentions_in_pieces-returns : goal.mentions_in_pieces-returns
mentions_in_pieces-returns t c =
    rw (pieces_end c.args.atoms.now c.loop-atom.atom-index (omega arith)) at c.loop-atom.invariant

pub mentions_in_pieces-mentions-requires : goal.mentions_in_pieces-mentions-requires
mentions_in_pieces-mentions-requires t c =
    (omega (arith, nodes_of_one _ _ _ c.loop-atom-item.is c.loop-atom-test.true), tt)
