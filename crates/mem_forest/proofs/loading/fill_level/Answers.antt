use Rattle.std.proofs.Common.{◌≡◌, ◌||◌, ◌++◌, true, [], sym, ap, ap₂, ◌∙◌}
use Rattle.std.specs.Prelude.{filter, not}
use Rattle.std.specs.List.{list_all}
use Rattle.memory_regions.specs.Relate.{relate}
use Rattle.memory_regions.specs.Context.{known}
use Rattle.mem_forest.specs.Plain.{PlainNode, cells}
use Rattle.mem_forest.specs.Levels.{related, is_separate, is_around}
use Rattle.mem_forest.proofs.MoveLemmas.{filled_clear, filled_not_clear, cells_none}
use Rattle.mem_forest.proofs.loading.fill_level.Goals as goal

pub returns-then-not-is_clear-clause-ok : goal.returns-then-not-is_clear-clause-ok
returns-then-not-is_clear-clause-ok c =
    let rel = relate (known c.args.context.now) c.args.region.now.at c.args.region.now.bytes in
    let passes = λ (n : PlainNode). is_separate (related rel n.names n.bytes) || is_around (related rel n.names n.bytes) in
    filled_not_clear rel c.args.region.now.at c.args.region.now.bytes c.args.value c.args.nodes.now.items
    (sym (c.is_clear.ensures ∙ ap (list_all passes) c.as_slice.ensures.value) ∙ c.if-not-is_clear.true)

pub returns-clause-ok : goal.returns-clause-ok
returns-clause-ok c =
    let rel = relate (known c.args.context.now) c.args.region.now.at c.args.region.now.bytes in
    let passes = λ (n : PlainNode). is_separate (related rel n.names n.bytes) || is_around (related rel n.names n.bytes) in
    let around = λ (n : PlainNode). is_around (related rel n.names n.bytes) in
    let outside = λ (n : PlainNode). not (is_around (related rel n.names n.bytes)) in
    let xs = c.args.nodes.now.items in
    let inner = c.move_inner.new.inner.items in
    let left = c.move_inner.new.nodes.items in
    let clear : list_all passes xs ≡ true = sym (c.is_clear.ensures ∙ ap (list_all passes) c.as_slice.ensures.value) ∙ c.if-not-is_clear.false in
    let is_leaf = c.leaf-2.view_is ∙ c.in_ok-leaf.ensures in
    let empty : c.reserve.new.self.items ≡ [] = c.reserve.ensures.items ∙ cells_none c.leaf-2.inside.under.items (ap (λ n. n.under) is_leaf) in
    let moved : inner ≡ c.reserve.new.self.items ++ filter around c.reserve-2.new.self.items = c.move_inner.ensures.moved in
    let kept : left ≡ filter outside c.reserve-2.new.self.items = c.move_inner.ensures.left in
    let node : PlainNode = record { names = c.leaf-2.inside.names.items; bytes = c.leaf-2.inside.bytes; value = c.leaf-2.inside.value; under = cells c.move_inner.new.inner.items } in
    filled_clear rel c.args.region.now.at c.args.region.now.bytes c.args.value xs inner left node (cells c.insert.new.nodes.items) clear
    (moved ∙ ap₂ (λ ns ms. ns ++ filter around ms) empty c.reserve-2.ensures.items) (kept ∙ ap (filter outside) c.reserve-2.ensures.items)
    (ap (λ n. (let m : PlainNode = record { names = n.names; bytes = n.bytes; value = n.value; under = cells c.move_inner.new.inner.items } in m)) is_leaf) c.insert.ensures
