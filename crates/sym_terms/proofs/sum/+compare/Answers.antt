use Rattle.std.proofs.Common.{◌≡◌, ◌+◌, [], ◌∷◌, ◌++◌, length, length-append, sym, ap, ◌∙◌, arith}
use Rattle.std.proofs.lemmas.Slice.Zip.{zip_turn, zip_end}
use Rattle.std.specs.Iterator.Adapters.{zip_first, zip_second}
use Rattle.std.specs.Slice.Iter.{iter_rest}
use Rattle.sym_terms.proofs.PieceLemmas.{nodes_of_one, one_ended, decided_at, deferred_at}
use Rattle.sym_terms.proofs.sum.+compare.Goals as goal

pub compare_pieces-returns : goal.compare_pieces-returns
compare_pieces-returns t c =
    let first = ap (λ z. iter_rest (zip_first z)) c.into_iter-a-iterator.ensures.into_iter_gives ∙ ap iter_rest c.zip-a-items.ensures.first ∙ c.iter.ensures.rest in
    let second : iter_rest (zip_second c.into_iter-a-iterator.result) ≡ c.args.right.now = rw c.into_iter-a-iterator.ensures.into_iter_gives c.zip-a-items.ensures.second.0 in
    let turns = zip_end c.args.left.now c.args.right.now _ c.into_iter-a-iterator.result c.loop-a.a-iterator c.next.new.self _ first second c.loop-a.yielded_by c.in-None.is c.next.ensures.steps in
    c.cmp-2.ensures ∙ sym (one_ended c.args.left.now c.args.right.now (length c.loop-a.yielded) turns) ∙ c.loop-a.invariant.2

pub compare_pieces-returns-then-is_ne : goal.compare_pieces-returns-then-is_ne
compare_pieces-returns-then-is_ne t c =
    let first = ap (λ z. iter_rest (zip_first z)) c.into_iter-a-iterator.ensures.into_iter_gives ∙ ap iter_rest c.zip-a-items.ensures.first ∙ c.iter.ensures.rest in
    let second : iter_rest (zip_second c.into_iter-a-iterator.result) ≡ c.args.right.now = rw c.into_iter-a-iterator.ensures.into_iter_gives c.zip-a-items.ensures.second.0 in
    let turn = zip_turn c.args.left.now c.args.right.now _ c.into_iter-a-iterator.result c.loop-a.a-iterator c.next.new.self _ first second c.loop-a.yielded_by _ c.in-Some.is c.next.ensures.steps in
    decided_at _ _ _ _ _ (turn.2 _) turn.0 (turn.3 _) turn.1 _ (rw (c.compare.ensures, c.cmp.ensures) at c.then-order.ensures) (sym c.is_ne.ensures ∙ c.if-is_ne.true)
    ∙ c.loop-a.invariant.2

pub compare_pieces-loop-a-preserved : goal.compare_pieces-loop-a-preserved
compare_pieces-loop-a-preserved t c =
    let first = ap (λ z. iter_rest (zip_first z)) c.into_iter-a-iterator.ensures.into_iter_gives ∙ ap iter_rest c.zip-a-items.ensures.first ∙ c.iter.ensures.rest in
    let second : iter_rest (zip_second c.into_iter-a-iterator.result) ≡ c.args.right.now = rw c.into_iter-a-iterator.ensures.into_iter_gives c.zip-a-items.ensures.second.0 in
    let turn = zip_turn c.args.left.now c.args.right.now _ c.into_iter-a-iterator.result c.loop-a.a-iterator c.next.new.self _ first second c.loop-a.yielded_by _ c.in-Some.is c.next.ensures.steps in
    let longer : length (c.loop-a.yielded ++ (c.in-Some.field-0-0, c.in-Some.field-0-1) ∷ []) ≡ length c.loop-a.yielded + 1 = length-append c.loop-a.yielded _ in (
      (tt, tt),
      tt,
      rw longer (deferred_at _ _ _ _ _ (turn.2 _) turn.0 (turn.3 _) turn.1 _ (rw (c.compare.ensures, c.cmp.ensures) at c.then-order.ensures) (sym c.is_ne.ensures ∙ c.if-is_ne.false)
          ∙ c.loop-a.invariant.2),
    )

pub compare_pieces-compare-requires : goal.compare_pieces-compare-requires
compare_pieces-compare-requires t c =
    let first = ap (λ z. iter_rest (zip_first z)) c.into_iter-a-iterator.ensures.into_iter_gives ∙ ap iter_rest c.zip-a-items.ensures.first ∙ c.iter.ensures.rest in
    let second : iter_rest (zip_second c.into_iter-a-iterator.result) ≡ c.args.right.now = rw c.into_iter-a-iterator.ensures.into_iter_gives c.zip-a-items.ensures.second.0 in
    let turn = zip_turn c.args.left.now c.args.right.now _ c.into_iter-a-iterator.result c.loop-a.a-iterator c.next.new.self _ first second c.loop-a.yielded_by _ c.in-Some.is c.next.ensures.steps in
    (omega (arith, nodes_of_one _ _ _ (turn.2 _) turn.0), tt)
