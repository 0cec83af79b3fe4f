use Rattle.std.proofs.Common.{◌≡◌, ◌+◌, true, false, [], ◌∷◌, ap, sym, ◌∙◌, arith}
use Rattle.std.specs.Prelude.{nat_lt}
use Rattle.std.proofs.lemmas.Bool.{lt-ltb, le-ltb}
use Rattle.memory_regions.specs.Relate.{relate}
use Rattle.memory_regions.specs.Context.{known}
use Rattle.mem_forest.specs.Plain.{none, PlainNode, cells, count}
use Rattle.mem_forest.specs.Levels.{is_separate, selected, insert}
use Rattle.mem_forest.specs.Store.{renewed}
use Rattle.mem_forest.proofs.StoreLemmas.{kept_cells, kept_count}
use Rattle.mem_forest.proofs.storing.renew.Goals as goal

pub count_nodes-after-requires : goal.count_nodes-after-requires
count_nodes-after-requires c =
    let rel = relate (known c.args.context.now) c.args.region.now.at c.args.region.now.bytes in
    let fewer = kept_count rel c.args.nodes.now.items c.reserve.new.self.items c.keep_separate.new.nodes.items c.reserve.ensures.items c.keep_separate.ensures.kept in
    omega (arith, ap (λ ns. count (cells ns)) c.as_slice-2.ensures.value, fewer, c.requires.within, c.requires.few)

pub overflow_add-total : goal.overflow_add-total
overflow_add-total c =
    let rel = relate (known c.args.context.now) c.args.region.now.at c.args.region.now.bytes in
    let fewer = kept_count rel c.args.nodes.now.items c.reserve.new.self.items c.keep_separate.new.nodes.items c.reserve.ensures.items c.keep_separate.ensures.kept in
    omega (arith, ap (λ ns. count (cells ns)) c.as_slice-2.ensures.value, fewer, c.count_nodes-after.ensures, c.requires.within, c.requires.few)

pub returns-then-total-before-lt-MOST_NODES-clause-ok : goal.returns-then-total-before-lt-MOST_NODES-clause-ok
returns-then-total-before-lt-MOST_NODES-clause-ok c =
    let rel = relate (known c.args.context.now) c.args.region.now.at c.args.region.now.bytes in
    let at = c.args.region.now.at in
    let a = c.args.region.now.bytes in
    let f = cells c.args.nodes.now.items in
    let kept : cells c.keep_separate.new.nodes.items ≡ selected is_separate rel f =
    kept_cells rel c.args.nodes.now.items c.reserve.new.self.items c.keep_separate.new.nodes.items c.reserve.ensures.items c.keep_separate.ensures.kept in
    let before : c.count_nodes-before.result ≡ count f = c.count_nodes-before.ensures ∙ ap (λ ns. count (cells ns)) (c.as_slice.ensures.value ∙ c.reserve.ensures.items) in
    let after : c.count_nodes-after.result ≡ count (selected is_separate rel f) = c.count_nodes-after.ensures ∙ ap (λ ns. count (cells ns)) c.as_slice-2.ensures.value ∙ ap count kept in
    let room : nat_lt (c.args.total + count (selected is_separate rel f)) (64 + count f) ≡ true =
    lt-ltb _ _ (omega (arith, before, after, c.if-total-before-lt-MOST_NODES.true, c.requires.within)) in
    c.insert.ensures ∙ ap (λ (n : PlainNode). insert n.names n.bytes n.value n.under (cells c.keep_separate.new.nodes.items)) c.in_ok-leaf.ensures ∙ ap (insert (at ∷ []) a c.args.value none) kept
    ∙ sym (ap (λ r. renewed rel at a c.args.value r f) room)

pub returns-else-total-before-lt-MOST_NODES-clause-ok : goal.returns-else-total-before-lt-MOST_NODES-clause-ok
returns-else-total-before-lt-MOST_NODES-clause-ok c =
    let rel = relate (known c.args.context.now) c.args.region.now.at c.args.region.now.bytes in
    let at = c.args.region.now.at in
    let a = c.args.region.now.bytes in
    let f = cells c.args.nodes.now.items in
    let kept : cells c.keep_separate.new.nodes.items ≡ selected is_separate rel f =
    kept_cells rel c.args.nodes.now.items c.reserve.new.self.items c.keep_separate.new.nodes.items c.reserve.ensures.items c.keep_separate.ensures.kept in
    let before : c.count_nodes-before.result ≡ count f = c.count_nodes-before.ensures ∙ ap (λ ns. count (cells ns)) (c.as_slice.ensures.value ∙ c.reserve.ensures.items) in
    let after : c.count_nodes-after.result ≡ count (selected is_separate rel f) = c.count_nodes-after.ensures ∙ ap (λ ns. count (cells ns)) c.as_slice-2.ensures.value ∙ ap count kept in
    let room : nat_lt (c.args.total + count (selected is_separate rel f)) (64 + count f) ≡ false =
    le-ltb _ _ (omega (arith, before, after, c.if-total-before-lt-MOST_NODES.false, c.requires.within)) in
    kept
    ∙ sym (ap (λ r. renewed rel at a c.args.value r f) room)
