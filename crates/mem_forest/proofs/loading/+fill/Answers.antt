use Rattle.std.proofs.Common.{◌≡◌, ◌<◌, true, Some, None, ap, sym, subst, ◌∙◌, slice_set, arith}
use Rattle.std.specs.Prelude.{OnOk}
use Rattle.std.specs.List.{position}
use Rattle.std.proofs.lemmas.List.Quantifiers.{position-Some}
use Rattle.memory_regions.specs.Relate.{relate}
use Rattle.memory_regions.specs.Context.{known}
use Rattle.mem_forest.specs.Plain.{PlainForest, PlainNode, cells, count}
use Rattle.mem_forest.specs.Levels.{related, is_inside, at_level}
use Rattle.mem_forest.specs.Load.{filled}
use Rattle.mem_forest.proofs.CountLemmas.{count-under}
use Rattle.mem_forest.proofs.PlaceLemmas.{went_under, at_level-none, at_level-some}
use Rattle.mem_forest.proofs.loading.+fill.Goals as goal

pub fill-requires : goal.fill-requires
fill-requires t c =
    let rel = relate (known c.args.context.now) c.args.region.now.at c.args.region.now.bytes in
    let inside = λ (n : PlainNode). is_inside (related rel n.names n.bytes) in
    let xs = c.args.nodes.now.items in
    let z = c.index_mut-node.result.now in
    let at_place : position inside xs ≡ Some c.in-Some.at = ap (position inside) (sym c.as_slice.ensures.value) ∙ sym c.in-Some.ensures in
    let p = position-Some inside xs c.in-Some.at z at_place in
    let below : count (cells c.node.inside.under.items) < count (cells xs) =
    omega (arith, ap (λ n. count n.under) c.node.view_is, ap (λ n. count n.under) c.index_mut-node.ensures.value, count-under xs c.in-Some.at z p.0) in
    (omega (arith, below, c.decreases), tt)

pub returns-in-None-clause-ok : goal.returns-in-None-clause-ok
returns-in-None-clause-ok t c =
    let rel = relate (known c.args.context.now) c.args.region.now.at c.args.region.now.bytes in
    let inside = λ (n : PlainNode). is_inside (related rel n.names n.bytes) in
    let at_none : position inside c.args.nodes.now.items ≡ None = ap (position inside) (sym c.as_slice.ensures.value) ∙ sym c.in-None.ensures in
    let P : PlainForest → Type 0 = λ g. OnOk c.fill_level.result (cells c.fill_level.new.nodes.items ≡ g) in
    subst P (sym (at_level-none true rel (filled rel c.args.region.now.at c.args.region.now.bytes c.args.value) c.args.nodes.now.items at_none)) c.fill_level.ensures.ok

pub returns-in_ok-fill-in-Some-clause-ok : goal.returns-in_ok-fill-in-Some-clause-ok
returns-in_ok-fill-in-Some-clause-ok t c =
    let rel = relate (known c.args.context.now) c.args.region.now.at c.args.region.now.bytes in
    let change = filled rel c.args.region.now.at c.args.region.now.bytes c.args.value in
    let inside = λ (n : PlainNode). is_inside (related rel n.names n.bytes) in
    let xs = c.args.nodes.now.items in
    let z = c.index_mut-node.result.now in
    let at_place : position inside xs ≡ Some c.in-Some.at = ap (position inside) (sym c.as_slice.ensures.value) ∙ sym c.in-Some.ensures in
    ap (λ (f : PlainForest). cells (slice_set xs c.in-Some.at (let m : PlainNode = record { names = c.node.inside.names.items; bytes = c.node.inside.bytes; value = c.node.inside.value; under = f } in m))) c.in_ok-fill-in-Some.ensures.ok
    ∙ ap (λ n. cells (slice_set xs c.in-Some.at (went_under true rel change n))) (c.node.view_is ∙ c.index_mut-node.ensures.value)
    ∙ sym (at_level-some true rel change xs c.in-Some.at z at_place)
