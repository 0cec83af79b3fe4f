use Rattle.std.proofs.Common.{◌≡◌, ◌<◌, ◌+◌, false, Some, None, ap, sym, subst, ◌∙◌, slice_set, arith}
use Rattle.std.specs.Prelude.{OnOk, nat_lt}
use Rattle.std.specs.List.{position}
use Rattle.std.proofs.lemmas.List.Quantifiers.{position-Some}
use Rattle.memory_regions.specs.Relate.{relate}
use Rattle.memory_regions.specs.Context.{known}
use Rattle.mem_forest.specs.Plain.{PlainForest, PlainNode, cells, count}
use Rattle.mem_forest.specs.Levels.{related, is_inside}
use Rattle.mem_forest.specs.Store.{placed}
use Rattle.mem_forest.proofs.CountLemmas.{count-under}
use Rattle.mem_forest.proofs.StoreLemmas.{placed-none, placed-some}
use Rattle.mem_forest.proofs.storing.+place.Goals as goal

pub place-requires : goal.place-requires
place-requires t c =
    let rel = relate (known c.args.context.now) c.args.region.now.at c.args.region.now.bytes in
    let inside = λ (n : PlainNode). is_inside (related rel n.names n.bytes) in
    let xs = c.args.nodes.now.items in
    let z = c.index_mut-node.result.now in
    let at_place : position inside xs ≡ Some c.in-Some.at = ap (position inside) (sym c.as_slice.ensures.value) ∙ sym c.in-Some.ensures in
    let p = position-Some inside xs c.in-Some.at z at_place in
    let below : count (cells c.node.inside.under.items) < count (cells xs) =
    omega (arith, ap (λ n. count n.under) c.node.view_is, ap (λ n. count n.under) c.index_mut-node.ensures.value, count-under xs c.in-Some.at z p.0) in
    (omega (arith, below, c.decreases), (omega (arith, below, c.requires.within), c.requires.few))

pub returns-in-None-clause-ok : goal.returns-in-None-clause-ok
returns-in-None-clause-ok t c =
    let rel = relate (known c.args.context.now) c.args.region.now.at c.args.region.now.bytes in
    let inside = λ (n : PlainNode). is_inside (related rel n.names n.bytes) in
    let at_none : position inside c.args.nodes.now.items ≡ None = ap (position inside) (sym c.as_slice.ensures.value) ∙ sym c.in-None.ensures in
    let P : PlainForest → Type 0 = λ g. OnOk c.renew.result (cells c.renew.new.nodes.items ≡ g) in
    subst P (placed-none rel c.args.region.now.at c.args.region.now.bytes c.args.value c.args.total c.args.nodes.now.items at_none) c.renew.ensures.ok

pub returns-in_ok-place-in-Some-clause-ok : goal.returns-in_ok-place-in-Some-clause-ok
returns-in_ok-place-in-Some-clause-ok t c =
    let rel = relate (known c.args.context.now) c.args.region.now.at c.args.region.now.bytes in
    let at = c.args.region.now.at in
    let a = c.args.region.now.bytes in
    let inside = λ (n : PlainNode). is_inside (related rel n.names n.bytes) in
    let xs = c.args.nodes.now.items in
    let z = c.index_mut-node.result.now in
    let at_place : position inside xs ≡ Some c.in-Some.at = ap (position inside) (sym c.as_slice.ensures.value) ∙ sym c.in-Some.ensures in
    let Q : PlainForest → Type 0 = λ f. cells c.place.new.nodes.items ≡ placed rel at a c.args.value (nat_lt (c.args.total + count (placed rel at a c.args.value false f)) (64 + count f)) f in
    let below : cells c.place.new.nodes.items ≡ placed rel at a c.args.value (nat_lt (c.args.total + count (placed rel at a c.args.value false z.under)) (64 + count z.under)) z.under =
    subst Q (ap (λ n. n.under) c.node.view_is) c.in_ok-place-in-Some.ensures.ok in
    ap (λ (n : PlainNode). cells (slice_set xs c.in-Some.at (let m : PlainNode = record { names = n.names; bytes = n.bytes; value = None; under = cells c.place.new.nodes.items } in m))) c.node.view_is
    ∙ placed-some rel at a c.args.value c.args.total xs c.in-Some.at z z (cells c.place.new.nodes.items) at_place c.index_mut-node.ensures.value below
