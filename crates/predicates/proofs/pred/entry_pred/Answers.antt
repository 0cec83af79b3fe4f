use Rattle.std.proofs.Common.{length, ap, ◌∙◌, arith}
use Rattle.predicates.specs.Bounds.{are_bounds}
use Rattle.predicates.proofs.EntryLemmas.{length_entries}
use Rattle.predicates.proofs.pred.entry_pred.Goals as goal

pub invariant_of-result : goal.invariant_of-result
invariant_of-result c = record {
  sixteen = ap length c.loop-number.invariant ∙ length_entries c.loop-number.number ∙ (omega arith);
  bounded = ap are_bounds c.new.ensures;
}
