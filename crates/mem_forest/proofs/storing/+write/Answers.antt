use Rattle.std.proofs.Common.{◌≡◌, ◌+◌, sym, ap, ◌∙◌, slice_set, take, drop, length, arith}
use Rattle.std.proofs.lemmas.List.{set-get_or}
use Rattle.mem_forest.specs.Plain.{PlainForest, PlainNode, cells}
use Rattle.mem_forest.specs.Search.{found}
use Rattle.mem_forest.specs.Levels.{value_if, nodes_if, written}
use Rattle.mem_forest.proofs.FrontLemmas.{front}
use Rattle.mem_forest.proofs.WriteLemmas.{write_here, write_under, write_after, found_after, write_end}
use Rattle.mem_forest.proofs.storing.+write.Goals as goal

pub returns-then-is-clause-nodes : goal.returns-then-is-clause-nodes
returns-then-is-clause-nodes t c =
    let z = c.index_mut-node.result.now in
    write_here c.args.keep c.args.region.now.at c.args.region.now.bytes c.loop-i.value c.loop-i.nodes.items c.loop-i.i _ z c.index_mut-node.ensures.value (omega (arith, c.loop-i.nodes.ok.0, c.args.nodes.now.ok.0, ap length c.loop-i.invariant.nodes))
    c.take_value.new.self _ (sym c.is.ensures ∙ c.if-is.true)
    (c.take_value.ensures ∙ ap (λ v. let n : PlainNode = record { names = z.names; bytes = z.bytes; value = v; under = nodes_if c.args.keep z.under } in n) c.take.ensures.value)
    c.loop-i.invariant.changed

pub returns-then-write-clause-nodes : goal.returns-then-write-clause-nodes
returns-then-write-clause-nodes t c =
    let at = c.args.region.now.at in
    let a = c.args.region.now.bytes in
    let after = λ (n : PlainNode). (let m : PlainNode = record { names = n.names; bytes = n.bytes; value = value_if c.args.keep n.value; under = written c.args.keep at a c.loop-i.value n.under } in m) in
    write_under c.args.keep at a c.loop-i.value c.loop-i.nodes.items c.loop-i.i _ c.index_mut-node.result.now c.index_mut-node.ensures.value (omega (arith, c.loop-i.nodes.ok.0, c.args.nodes.now.ok.0, ap length c.loop-i.invariant.nodes))
    c.keep_value.new.self _ (sym c.is.ensures ∙ c.if-is.false) (ap (λ n. found at a n.under) (sym c.node.view_is) ∙ sym c.if-write.ensures.found)
    (c.keep_value.ensures ∙ ap (λ (f : PlainForest). (let m : PlainNode = record { names = c.node.inside.names.items; bytes = c.node.inside.bytes; value = value_if c.args.keep c.node.inside.value; under = f } in m)) c.if-write.ensures.nodes ∙ ap after c.node.view_is)
    c.loop-i.invariant.changed

pub loop-i-preserved : goal.loop-i-preserved
loop-i-preserved t c =
    let at = c.args.region.now.at in
    let a = c.args.region.now.bytes in
    let xs = c.loop-i.nodes.items in
    let i = c.loop-i.i in
    let v = c.loop-i.value in
    let z = c.index_mut-node.result.now in
    let not_here = sym c.is.ensures ∙ c.if-is.false in
    let not_under = ap (λ n. found at a n.under) (sym c.node.view_is) ∙ sym c.if-write.ensures.found in
    let node_same = ap (λ ns. (let m : PlainNode = record { names = c.node.inside.names.items; bytes = c.node.inside.bytes; value = c.node.inside.value; under = cells ns } in m)) c.if-write.ensures.unchanged ∙ c.node.view_is in
    let same : slice_set xs i _ ≡ xs = ap (slice_set xs i) (node_same ∙ c.index_mut-node.ensures.value) ∙ set-get_or xs i z in
    let value_same = c.if-write.ensures.kept in
    record {
      nodes = same ∙ c.loop-i.invariant.nodes;
      value = value_same ∙ c.loop-i.invariant.value;
      searched = ap (λ ns. found at a (cells (drop (i + 1) ns))) same ∙ found_after c.args.keep at a v xs i z z c.index_mut-node.ensures.value (omega (arith, c.loop-i.nodes.ok.0, c.args.nodes.now.ok.0, ap length c.loop-i.invariant.nodes)) not_here not_under ∙ c.loop-i.invariant.searched;
      changed =
          ap (λ ns. front (take (i + 1) ns) (written c.args.keep at a c.write.new.value (cells (drop (i + 1) ns)))) same
          ∙ ap (λ w. front (take (i + 1) xs) (written c.args.keep at a w (cells (drop (i + 1) xs)))) value_same
          ∙ write_after c.args.keep at a v xs i z z c.index_mut-node.ensures.value (omega (arith, c.loop-i.nodes.ok.0, c.args.nodes.now.ok.0, ap length c.loop-i.invariant.nodes)) _ not_here not_under c.loop-i.invariant.changed;
    }

pub returns-clause-nodes : goal.returns-clause-nodes
returns-clause-nodes t c =
    write_end c.args.keep c.args.region.now.at c.args.region.now.bytes c.loop-i.value c.loop-i.nodes.items c.loop-i.i _ (omega (arith, c.loop-i.nodes.ok.0, c.args.nodes.now.ok.0, ap length c.loop-i.invariant.nodes)) c.loop-i.invariant.changed
