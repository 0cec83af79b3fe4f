use Rattle.std.proofs.Common.{◌≡◌, ◌+◌, ◌-◌, ◌<◌, length, slice_set, take, drop, sym, ap, subst, ◌∙◌, ℕ, arith}
use Rattle.std.specs.Prelude.{◌==◌}
use Rattle.mem_forest.specs.Plain.{PlainForest, PlainNode, cells}
use Rattle.mem_forest.specs.Forget.{unmentioned, unmentioned_value, forget}
use Rattle.mem_forest.proofs.ForgetLemmas.{forgotten, first_name, no_name, take-removed, take_changed, forget_gone, forget_placed}
use Rattle.mem_forest.proofs.forgetting.+forget.Goals as goal

pub loop-left-preserved-then-is_nameless : goal.loop-left-preserved-then-is_nameless
loop-left-preserved-then-is_nameless t c =
    let s = c.args.s in
    let old = c.args.nodes.now.items in
    let xs = c.loop-left.nodes.items in
    let i = c.loop-left.left - 1 in
    let z = c.index_mut-node.result.now in
    let y : PlainNode = record { names = c.keep_names.new.names.items; bytes = c.node.inside.bytes; value = c.keep_value.new.value; under = cells c.forget_nodes.new.nodes.items } in
    let is_y : y ≡ forgotten s z =
    ap (λ ns. (let m : PlainNode = record { names = ns; bytes = c.node.inside.bytes; value = c.keep_value.new.value; under = cells c.forget_nodes.new.nodes.items } in m)) c.keep_names.ensures
    ∙ ap (λ v. (let m : PlainNode = record { names = unmentioned s c.node.inside.names.items; bytes = c.node.inside.bytes; value = v; under = cells c.forget_nodes.new.nodes.items } in m)) c.keep_value.ensures
    ∙ ap (λ (f : PlainForest). (let m : PlainNode = record { names = unmentioned s c.node.inside.names.items; bytes = c.node.inside.bytes; value = unmentioned_value s c.node.inside.value; under = f } in m)) c.forget_nodes.ensures
    ∙ ap (forgotten s) c.node.view_is in
    let next : c.loop-left.left ≡ i + 1 = omega arith in
    let within : i < length xs = omega (arith, c.loop-left.nodes.ok.0, c.loop-left.invariant.within) in
    let inside : i < length old = omega (arith, c.args.nodes.now.ok.0, c.loop-left.invariant.inside) in
    let P : ℕ → Type 0 = λ k. take k xs ≡ take k old in
    let Q : ℕ → Type 0 = λ k. cells (drop k xs) ≡ forget s (cells (drop k old)) in
    let before : take (i + 1) xs ≡ take (i + 1) old = subst P next c.loop-left.invariant.before in
    let after : cells (drop (i + 1) xs) ≡ forget s (cells (drop (i + 1) old)) = subst Q next c.loop-left.invariant.forgotten in
    let gone = no_name y.names (ap (λ n. n == 0) (sym c.keep_names.new.names.ok.0) ∙ sym c.is_empty-is_nameless.ensures ∙ c.if-is_nameless.true) in
    record {
      within = omega (arith, c.remove.ensures.len, c.loop-left.invariant.within);
      inside = omega (arith, c.loop-left.invariant.inside);
      before = ap (take i) c.remove.ensures.items ∙ take-removed (slice_set xs i y) i ∙ take_changed s old xs i z z y c.index_mut-node.ensures.value within is_y before inside after;
      forgotten = ap (λ ns. cells (drop i ns)) c.remove.ensures.items ∙ forget_gone s old xs i z z y c.index_mut-node.ensures.value within is_y before inside after gone;
    }

pub loop-left-preserved : goal.loop-left-preserved
loop-left-preserved t c =
    let s = c.args.s in
    let old = c.args.nodes.now.items in
    let xs = c.loop-left.nodes.items in
    let i = c.loop-left.left - 1 in
    let z = c.index_mut-node.result.now in
    let y : PlainNode = record { names = c.keep_names.new.names.items; bytes = c.node.inside.bytes; value = c.keep_value.new.value; under = cells c.forget_nodes.new.nodes.items } in
    let is_y : y ≡ forgotten s z =
    ap (λ ns. (let m : PlainNode = record { names = ns; bytes = c.node.inside.bytes; value = c.keep_value.new.value; under = cells c.forget_nodes.new.nodes.items } in m)) c.keep_names.ensures
    ∙ ap (λ v. (let m : PlainNode = record { names = unmentioned s c.node.inside.names.items; bytes = c.node.inside.bytes; value = v; under = cells c.forget_nodes.new.nodes.items } in m)) c.keep_value.ensures
    ∙ ap (λ (f : PlainForest). (let m : PlainNode = record { names = unmentioned s c.node.inside.names.items; bytes = c.node.inside.bytes; value = unmentioned_value s c.node.inside.value; under = f } in m)) c.forget_nodes.ensures
    ∙ ap (forgotten s) c.node.view_is in
    let next : c.loop-left.left ≡ i + 1 = omega arith in
    let within : i < length xs = omega (arith, c.loop-left.nodes.ok.0, c.loop-left.invariant.within) in
    let inside : i < length old = omega (arith, c.args.nodes.now.ok.0, c.loop-left.invariant.inside) in
    let P : ℕ → Type 0 = λ k. take k xs ≡ take k old in
    let Q : ℕ → Type 0 = λ k. cells (drop k xs) ≡ forget s (cells (drop k old)) in
    let before : take (i + 1) xs ≡ take (i + 1) old = subst P next c.loop-left.invariant.before in
    let after : cells (drop (i + 1) xs) ≡ forget s (cells (drop (i + 1) old)) = subst Q next c.loop-left.invariant.forgotten in
    let named = first_name y.names (ap (λ n. n == 0) (sym c.keep_names.new.names.ok.0) ∙ sym c.is_empty-is_nameless.ensures ∙ c.if-is_nameless.false) in
    record {
      within = omega (arith, c.settle.ensures.len, c.loop-left.invariant.within);
      inside = omega (arith, c.loop-left.invariant.inside);
      before = c.settle.ensures.before ∙ take_changed s old xs i z z y c.index_mut-node.ensures.value within is_y before inside after;
      forgotten = forget_placed s old xs i z z y c.index_mut-node.ensures.value within is_y before inside after named.1 named.0 c.settle.new.nodes.items named.2 c.settle.ensures.placed;
    }
