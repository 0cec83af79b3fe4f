-- What is weakened, of predicates in form.
use Rattle.std.proofs.Common.{◌≡◌, true, List, length, sym, subst, ◌∙◌}
use Rattle.sym_terms.specs.Plain.{PlainSum}
use Rattle.mem_forest.proofs.WeakenLemmas.{weakened_forest}
use Rattle.predicates.specs.Predicate.{Predicate}
use Rattle.predicates.specs.Holding.{holds_bound}
use Rattle.predicates.specs.Weaken.{weaken}
use Rattle.predicates.proofs.WeakenLemmas.{as_many, bounds_stay}
use Rattle.bank_values.specs.declared.pred.BankPred.{BankPred}
use Rattle.bank_values.specs.ReadBack.{predicate_at, IsBelow, IsPred}
use Rattle.image_steps.specs.Shaped.{is_shaped, weakened}
use Rattle.image_steps.specs.Laws.{shaped_by, weakened_both}
use Rattle.image_steps.specs.Walks.{IsNumbered}

-- a predicate in form has its shape
pub shaped_pred : (p : Predicate) → IsPred p → is_shaped p ≡ true
shaped_pred p h = shaped_by p (record { sixteen = h.formed.sixteen; forest = h.forest })

-- what is weakened is in form
pub weaken_pred : (p r : Predicate) → IsPred p → IsPred (weaken p r)
weaken_pred p r h = record {
  formed = record {
    sixteen = as_many r.regs p.regs ∙ h.formed.sixteen;
    bounded = bounds_stay (holds_bound r.bounds) p.bounds h.formed.bounded;
  };
  forest = weakened_forest r.forest p.forest h.forest;
}

pub weakened_read : (terms : List PlainSum) (p q after : BankPred) → IsNumbered terms p → IsNumbered terms q
    → predicate_at terms after ≡ weaken (predicate_at terms p) (predicate_at terms q)
    → predicate_at terms after ≡ weakened (predicate_at terms p) (predicate_at terms q)
weakened_read terms p q after h k e =
    e ∙ sym (weakened_both (predicate_at terms p) (predicate_at terms q) (shaped_pred (predicate_at terms q) k.formed) (shaped_pred (predicate_at terms p) h.formed))

pub weakened_numbered : (terms : List PlainSum) (p q after : BankPred) → IsNumbered terms p
    → predicate_at terms after ≡ weaken (predicate_at terms p) (predicate_at terms q) → IsBelow (length terms) after → IsNumbered terms after
weakened_numbered terms p q after h e l = record {
  below = l;
  formed = subst IsPred (sym e) (weaken_pred (predicate_at terms p) (predicate_at terms q) h.formed);
}
