use Rattle.std.proofs.Common.{◌≡◌, ◌+◌, length, min, subst, sym, ap, ◌∙◌}
use Rattle.graph_text.specs.Text.{graph_text, function_text}
use Rattle.text_bench.proofs.PieceLemmas.{Counted, most, counted_first, counted_more, counted_all}
use Rattle.text_bench.proofs.length_in_pieces.Goals as goal

pub loop-function-init : goal.loop-function-init
loop-function-init c =
    let g = c.args.graph.now in
    subst (λ fs. Counted (length (graph_text g)) fs 0 19) (sym c.as_slice-function-items.ensures) (counted_first g)

pub loop-function-preserved : goal.loop-function-preserved
loop-function-preserved c =
    let whole = length (graph_text c.args.graph.now) in
    let fs = c.as_slice-function-items.result.now in
    let n = c.loop-function.function-index in
    let count = c.loop-function.length in
    let f = c.function-item.result in
    let more : c.saturating_add-length.result ≡ min (count + length (function_text f)) most =
    c.saturating_add-length.ensures
    ∙ ap (λ k. min (count + k) most) (ap length (c.as_slice.ensures.value ∙ c.in_ok-text.ensures)) in
    subst (λ k. Counted whole fs (n + 1) k) (sym more)
    (counted_more whole fs n count f c.loop-function-test.true c.function-item.is c.loop-function.invariant)

pub returns : goal.returns
returns c =
    counted_all (length (graph_text c.args.graph.now)) c.as_slice-function-items.result.now c.loop-function.function-index
    c.loop-function.length c.loop-function-test.false c.loop-function.invariant
