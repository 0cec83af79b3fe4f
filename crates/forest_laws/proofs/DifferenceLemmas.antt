-- Names that compare as equal are those at difference 0.
use Rattle.std.proofs.Common.{◌≡◌, ℕ, ◌+◌, ◌-◌, ◌%◌, ◌^◌, ◌<◌, true, false, Some, refl, sym, ap, ap₂, ◌∙◌, arith, inl, inr}
use Rattle.std.specs.Prelude.{IsTrue, is_some}
use Rattle.std.specs.Ordering.{is_eq}
use Rattle.std.specs.Cmp.{tied_itself}
use Rattle.std.proofs.lemmas.Bool.{cases_Bool}
use Rattle.sym_terms.specs.Plain.{PlainSum, sum, constant_alone}
use Rattle.sym_terms.specs.Order.{sum_cmp, pieces_cmp}
use Rattle.sym_terms.specs.Codes.{sum_same, pieces_same, sum_total, pieces_total}
use Rattle.sym_terms.specs.Normal.{minus, IsNormal}
use Rattle.sym_terms.proofs.OffsetLemmas.{offset_known, offset_unknown}
use Rattle.mem_forest.proofs.SingleLemmas.{equal_from}
use Rattle.forest_laws.specs.Laws.{DifferenceLaw}

-- a term is at difference 0 from itself
itself : (a : PlainSum) → IsNormal a → constant_alone (minus a a) ≡ Some 0
itself (sum c xs) n =
    let gone : (c + (2 ^ 64 - c)) % 2 ^ 64 ≡ 0 = omega (arith, n.0) in
    sym (offset_known (sum c xs) (sum c xs) c c xs xs refl refl n n (ap is_eq (tied_itself pieces_total xs))) ∙ ap Some gone

-- a number below 2^64 at difference 0 from another is that number
no_offset : (c d : ℕ) → c < 2 ^ 64 → d < 2 ^ 64 → (c + (2 ^ 64 - d)) % 2 ^ 64 ≡ 0 → c ≡ d
no_offset c d h k e = omega (arith, e)

-- terms at difference 0 compare as equal
at_zero : (a b : PlainSum) → IsNormal a → IsNormal b → constant_alone (minus a b) ≡ Some 0 → IsTrue (is_eq (sum_cmp a b))
at_zero (sum c xs) (sum d ys) na nb e =
    let Goal : Type 0 = IsTrue (is_eq (sum_cmp (sum c xs) (sum d ys))) in
    elim (cases_Bool (is_eq (pieces_cmp xs ys))) as (λ w. Goal) [
      | inl q ↦
          let known : Some ((c + (2 ^ 64 - d)) % 2 ^ 64) ≡ Some 0 = offset_known (sum c xs) (sum d ys) c d xs ys refl refl na nb q ∙ e in
          let zero_offset : (c + (2 ^ 64 - d)) % 2 ^ 64 ≡ 0 = cc in
          let same : sum c xs ≡ sum d ys = ap₂ sum (no_offset c d na.0 nb.0 zero_offset) (pieces_same xs ys (equal_from (pieces_cmp xs ys) q)) in
          ap is_eq (ap (sum_cmp (sum c xs)) (sym same) ∙ tied_itself sum_total (sum c xs))
      | inr q ↦
          let other : false ≡ true = ap is_some (offset_unknown (sum c xs) (sum d ys) c d xs ys refl refl na nb q ∙ e) in
          absurd (cc)
    ]

-- two terms compare as equal exactly where their difference is the constant 0
pub difference : DifferenceLaw
difference a b ta tb =
    (λ e. ap (λ t. constant_alone (minus a t)) (sym (sum_same a b (equal_from (sum_cmp a b) e))) ∙ itself a ta.normal, at_zero a b ta.normal tb.normal)
