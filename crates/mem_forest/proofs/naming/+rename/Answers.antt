use Rattle.std.proofs.Common.{◌≡◌, ◌+◌, ◌<◌, Bool, false, length, slice_set, take, drop, sym, ap, subst, ◌∙◌, List, arith}
use Rattle.std.specs.Prelude.{MatchBool}
use Rattle.std.proofs.lemmas.List.{set-get_or}
use Rattle.sym_terms.specs.Plain.{PlainSum}
use Rattle.mem_forest.specs.Plain.{PlainForest, PlainNode, cells}
use Rattle.mem_forest.specs.Search.{found}
use Rattle.mem_forest.specs.Levels.{inserted}
use Rattle.mem_forest.specs.Alias.{with_name, renamed}
use Rattle.mem_forest.proofs.RenameLemmas.{rename_here, rename_after, search_after}
use Rattle.mem_forest.proofs.naming.+rename.Goals as goal

pub returns-then-is-clause-ok : goal.returns-then-is-clause-ok
returns-then-is-clause-ok t c =
    let name = c.args.name.now in
    let at = c.args.region.now.at in
    let b = c.args.region.now.bytes in
    let xs = c.loop-i.nodes.items in
    let i = c.loop-i.i in
    let z = c.index_mut-node.result.now in
    let within : i < length xs = omega (arith, c.loop-i.nodes.ok.0, c.args.nodes.now.ok.0, ap length c.loop-i.invariant.nodes) in
    let y : PlainNode = record { names = c.add_name.new.names.items; bytes = c.node.inside.bytes; value = c.node.inside.value; under = cells c.node.inside.under.items } in
    let named = λ (n : PlainNode). (let m : PlainNode = record { names = with_name name n.names; bytes = n.bytes; value = n.value; under = n.under } in m) in
    let is_y = ap (λ (ns : List PlainSum). (let m : PlainNode = record { names = ns; bytes = c.node.inside.bytes; value = c.node.inside.value; under = cells c.node.inside.under.items } in m)) c.in_ok-add_name.ensures.ok ∙ ap named c.node.view_is in
    rename_here name at b xs i z z c.index_mut-node.ensures.value within y (cells c.settle_before.new.nodes.items) _ (sym c.is.ensures ∙ c.if-is.true) is_y c.settle_before.ensures c.loop-i.invariant.changed

pub loop-i-preserved : goal.loop-i-preserved
loop-i-preserved t c =
    let name = c.args.name.now in
    let at = c.args.region.now.at in
    let b = c.args.region.now.bytes in
    let xs = c.loop-i.nodes.items in
    let i = c.loop-i.i in
    let z = c.index_mut-node.result.now in
    let within : i < length xs = omega (arith, c.loop-i.nodes.ok.0, c.args.nodes.now.ok.0, ap length c.loop-i.invariant.nodes) in
    let not_here = sym c.is.ensures ∙ c.if-is.false in
    let not_under : found at b z.under ≡ false = ap (λ n. found at b n.under) (sym c.node.view_is) ∙ sym c.in_ok-rename.ensures.found ∙ c.if-branch.false in
    let M : Bool → Type 0 = λ o. MatchBool o (cells c.rename.new.nodes.items ≡ renamed name at b (cells c.node.inside.under.items)) (c.rename.new.nodes.items ≡ c.node.inside.under.items) in
    let still : c.rename.new.nodes.items ≡ c.node.inside.under.items = subst M c.if-branch.false c.in_ok-rename.ensures.ok in
    let node_same = ap (λ ns. (let m : PlainNode = record { names = c.node.inside.names.items; bytes = c.node.inside.bytes; value = c.node.inside.value; under = cells ns } in m)) still ∙ c.node.view_is in
    let same = ap (slice_set xs i) (node_same ∙ c.index_mut-node.ensures.value) ∙ set-get_or xs i z in
    record {
      nodes = same ∙ c.loop-i.invariant.nodes;
      searched = ap (λ ns. found at b (cells (drop (i + 1) ns))) same ∙ search_after name at b xs i z z c.index_mut-node.ensures.value within not_here not_under ∙ c.loop-i.invariant.searched;
      changed =
          ap (λ ns. inserted (take (i + 1) ns) (renamed name at b (cells (drop (i + 1) ns)))) same
          ∙ rename_after name at b xs i z z c.index_mut-node.ensures.value within _ not_here not_under c.loop-i.invariant.changed;
    }
