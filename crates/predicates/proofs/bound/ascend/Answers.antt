use Rattle.std.proofs.Common.{rules}
use Rattle.std.specs.Prelude.{nat_lt}
use Rattle.std.proofs.lemmas.List.Sorted.{answers_always}
use Rattle.predicates.proofs.BoundLemmas.{in_order_answer}
use Rattle.predicates.proofs.bound.ascend.Goals as goal

pub returns : goal.returns
returns c =
    in_order_answer nat_lt c.args.numbers.now c.is_sorted_by.result (c.is_sorted_by.ensures.cases nat_lt (answers_always _ _ _ (λ f a r g called. search rules)))
