use Rattle.std.proofs.Common.{◌≡◌, length, ap, ◌∙◌, subst, arith, rules, of_calls}
use Rattle.std.specs.Prelude.{IsPermutation, slice_get}
use Rattle.std.specs.List.{range_with_len}
use Rattle.std.proofs.lemmas.Fn.{always_returns_same}
use Rattle.lift_graph.proofs.OrderLemmas.{once_all}
use Rattle.lift_graph.proofs.order.written_order.Goals as goal

pub returns : goal.returns
returns c =
    let keys = c.args.keys.now in
    let n : c.loop-vertex.vertex ≡ length keys = omega arith in
    let same : c.loop-vertex.order.items ≡ range_with_len 0 (length keys) = c.loop-vertex.invariant ∙ ap (range_with_len 0) n in
    let order = c.sort_unstable_by_key.new.self.items in
    let once : IsPermutation (range_with_len 0 (length keys)) order = subst (λ xs. IsPermutation xs order) same c.sort_unstable_by_key.ensures.permutation in
    record {
      written = record {
        once = once;
        ascends = c.sort_unstable_by_key.ensures.sorted (slice_get keys) (always_returns_same _ (λ a r. r ≡ slice_get keys a.0.now) _ (λ a r f k. search (rules, of_calls)));
      };
      all = λ v h. once_all (length keys) v order once h;
    }
