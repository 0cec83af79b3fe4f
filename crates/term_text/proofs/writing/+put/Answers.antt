use Rattle.std.proofs.Common.{◌++◌, ap, ◌∙◌, arith}
use Rattle.sym_terms.proofs.PieceLemmas.{nodes_of_one}
use Rattle.term_text.specs.Text.{sum_text}
use Rattle.term_text.proofs.WriteLemmas.{sum_put, empty_is}
use Rattle.term_text.proofs.writing.+put.Goals as goal

pub put_sum-returns : goal.put_sum-returns
put_sum-returns t c =
    sum_put c.args.out.now.items c.put_pieces.new.out.items _ c.sum.inside.atoms c.sum.inside.constant c.is_empty.result (rw c.as_slice.ensures at c.in_ok-put_pieces.ensures) c.in_ok-put_constant.ensures (empty_is _ _ c.is_empty.ensures)
    ∙ ap (λ s. c.args.out.now.items ++ sum_text s) c.sum.view_is

pub put_pieces-put_atom-requires : goal.put_pieces-put_atom-requires
put_pieces-put_atom-requires t c =
    (omega (arith, nodes_of_one _ _ _ c.loop-atom-item.is c.loop-atom-test.true), tt)
