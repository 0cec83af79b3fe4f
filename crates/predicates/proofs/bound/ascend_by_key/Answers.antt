use Rattle.std.proofs.Common.{rules}
use Rattle.predicates.specs.Bounds.{key_before}
use Rattle.std.proofs.lemmas.List.Sorted.{answers_always}
use Rattle.predicates.proofs.BoundLemmas.{in_order_answer}
use Rattle.predicates.proofs.bound.ascend_by_key.Goals as goal

pub returns : goal.returns
returns c =
    in_order_answer key_before c.args.bounds.now c.is_sorted_by.result (c.is_sorted_by.ensures.cases key_before (answers_always _ _ _ (λ f a r g called. search rules)))
