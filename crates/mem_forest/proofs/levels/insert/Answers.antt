use Rattle.std.proofs.Common.{◌≡◌, ap, sym, ◌∙◌, arith}
use Rattle.std.specs.Prelude.{if◌then◌else◌, is_ok}
use Rattle.std.specs.List.{position_or_len, insert as insert_item}
use Rattle.mem_forest.specs.Plain.{PlainNode, cells}
use Rattle.mem_forest.specs.Shape.{comes_before}
use Rattle.mem_forest.proofs.PlaceLemmas.{position_or_len-le, insert-cells}
use Rattle.mem_forest.proofs.levels.insert.Goals as goal

pub insert-requires : goal.insert-requires
insert-requires c =
    let before = λ (m : PlainNode). comes_before c.args.node.names c.args.node.bytes m.names m.bytes in
    let place : c.place_of-place.result ≡ position_or_len before c.as_slice.result.now = c.place_of-place.ensures in
    omega (arith, place, c.as_slice.ensures.len, position_or_len-le before c.as_slice.result.now)

pub returns : goal.returns
returns c =
    let before = λ (m : PlainNode). comes_before c.args.node.names c.args.node.bytes m.names m.bytes in
    let xs = c.args.nodes.now.items in
    let place : c.place_of-place.result ≡ position_or_len before xs = c.place_of-place.ensures ∙ ap (position_or_len before) c.as_slice.ensures.value in
    ap cells (c.insert.ensures.items ∙ ap (λ r. if is_ok r then insert_item xs c.place_of-place.result c.args.node else xs) c.unwrap.ensures ∙ ap (λ k. insert_item xs k c.args.node) place)
    ∙ sym (insert-cells c.args.node xs)
