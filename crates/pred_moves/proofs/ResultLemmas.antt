-- An operation on an unknown operand is unknown.
use Rattle.std.proofs.Common.{◌≡◌, Option, Some, None, refl}
use Rattle.bits_core.specs.declared.operations.Alu.{Alu}
use Rattle.bits_core.specs.declared.operations.Alu.TheVariants.{Add, Or, Adc, Sbb, And, Sub, Xor}
use Rattle.sym_terms.specs.Plain.{PlainSum}
use Rattle.step_rules.specs.Results.{whole_term}

pub no_left : (alu : Alu) (right : Option PlainSum) → whole_term alu None right ≡ None
unfolding whole_term
no_left alu right =
    elim alu as (λ o. whole_term o None right ≡ None) [ Add ↦ refl | Or ↦ refl | Adc ↦ refl | Sbb ↦ refl | And ↦ refl | Sub ↦ refl | Xor ↦ refl ]

pub no_right : (alu : Alu) (left : PlainSum) → whole_term alu (Some left) None ≡ None
unfolding whole_term
no_right alu left =
    elim alu as (λ o. whole_term o (Some left) None ≡ None) [ Add ↦ refl | Or ↦ refl | Adc ↦ refl | Sbb ↦ refl | And ↦ refl | Sub ↦ refl | Xor ↦ refl ]
