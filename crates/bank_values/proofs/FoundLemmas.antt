-- A number that is found is that of the term that was looked for.
use Rattle.std.proofs.Common.{◌≡◌, subst}
use Rattle.std.specs.Prelude.{◌↔◌, IsTrue}
use Rattle.std.specs.Ordering.{is_eq}
use Rattle.sym_terms.specs.Plain.{PlainSum}
use Rattle.sym_terms.specs.Order.{sum_cmp}
use Rattle.sym_terms.specs.Equality.{equals, equals_same, equals_equiv}

-- terms are equal exactly where they compare so
pub same_exactly : (a b : PlainSum) → IsTrue (is_eq (sum_cmp a b)) ↔ (a ≡ b)
same_exactly a b = (λ h. equals_same a b h, λ e. subst (λ t. IsTrue (equals a t)) e (equals_equiv.refl a))
