use Rattle.std.proofs.Common.{◌∙◌, ap, length}
use Rattle.std.specs.Prelude.{unwrap_or, not}
use Rattle.std.specs.Ordering.{is_gt}
use Rattle.sym_terms.specs.Plain.{PlainSum}
use Rattle.sym_terms.specs.Order.{sum_cmp}
use Rattle.mem_forest.proofs.PlaceLemmas.{position_unwrapped}
use Rattle.mem_forest.proofs.naming.name_place.Goals as goal

pub returns : goal.returns
returns c =
    let at_or_before = λ (n : PlainSum). not (is_gt (sum_cmp c.args.name.now n)) in
    c.unwrap_or.ensures ∙ ap (λ o. unwrap_or o (length c.args.names.now)) c.first_not_before.ensures ∙ position_unwrapped at_or_before c.args.names.now
