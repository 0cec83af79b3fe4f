use Rattle.std.proofs.Common.{◌≡◌, sym, ap, ◌∙◌, arith}
use Rattle.mem_forest.specs.Plain.{PlainForest, PlainNode, cells, count}
use Rattle.mem_forest.specs.Levels.{value_if}
use Rattle.mem_forest.specs.Clear.{is_any_here}
use Rattle.mem_forest.proofs.CountLemmas.{count-under}
use Rattle.mem_forest.proofs.ClearLemmas.{cleared, clear_more, count_cleared, clear_end}
use Rattle.mem_forest.proofs.clearing.+clear.Goals as goal

pub clear_nodes-requires : goal.clear_nodes-requires
clear_nodes-requires t c =
    let z = c.index_mut-node.result.now in
    omega (arith, c.decreases, c.loop-i.invariant.nodes, ap (λ n. count n.under) c.node.view_is, ap (λ n. count n.under) c.index_mut-node.ensures.value, count-under c.loop-i.nodes.items c.loop-i.i z (omega (arith, c.loop-i.nodes.ok.0, c.loop-i.invariant.len)))

pub loop-i-preserved : goal.loop-i-preserved
loop-i-preserved t c =
    let rs = c.args.keeps.now in
    let xs = c.loop-i.nodes.items in
    let z = c.index_mut-node.result.now in
    let y = c.keep_value.new.self in
    let is_y : y ≡ cleared rs z =
    c.keep_value.ensures
    ∙ ap (λ t. (let m : PlainNode = record { names = c.node.inside.names.items; bytes = c.node.inside.bytes; value = value_if t c.node.inside.value; under = cells c.clear_nodes.new.nodes.items } in m)) (c.is_any-keep.ensures ∙ ap (λ n. is_any_here rs n.names n.bytes) (sym c.node.view_is))
    ∙ ap (λ (f : PlainForest). (let m : PlainNode = record { names = c.node.inside.names.items; bytes = c.node.inside.bytes; value = value_if (is_any_here rs c.node.inside.names.items c.node.inside.bytes) c.node.inside.value; under = f } in m)) c.clear_nodes.ensures
    ∙ ap (cleared rs) c.node.view_is in
    record {
      len = c.loop-i.invariant.len;
      nodes = count_cleared rs xs c.loop-i.i z z y c.index_mut-node.ensures.value (omega (arith, c.loop-i.nodes.ok.0, c.loop-i.invariant.len)) is_y ∙ c.loop-i.invariant.nodes;
      changed = clear_more rs xs c.loop-i.i z z y c.index_mut-node.ensures.value (omega (arith, c.loop-i.nodes.ok.0, c.loop-i.invariant.len)) is_y _ c.loop-i.invariant.changed;
    }

pub returns : goal.returns
returns t c = clear_end c.args.keeps.now c.loop-i.nodes.items c.loop-i.i _ (omega (arith, c.loop-i.nodes.ok.0, c.loop-i.invariant.len)) c.loop-i.invariant.changed
