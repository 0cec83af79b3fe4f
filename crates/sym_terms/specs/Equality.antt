-- When two terms are equal, as `==` and a hash see them: where their order is Equal.
use Rattle.std.specs.Prelude.{◌≡◌, Bool, true, IsTrue}
use Rattle.std.specs.Ordering.{eq_by_cmp}
use Rattle.std.specs.Cmp.{IsEquivalence, eq_by_cmp_equiv, Equal-is}
use Rattle.std.specs.Hash as fed
use Rattle.std.proofs.Common.{ap}
use Rattle.sym_terms.specs.Plain.{PlainSum}
use Rattle.sym_terms.specs.Order.{sum_cmp}
use Rattle.sym_terms.specs.Codes.{sum_same, sum_total}
use Rattle.sym_terms.specs.Digest.{digest}

-- whether two terms are equal
abbrev pub equals : PlainSum → PlainSum → Bool
equals a b = eq_by_cmp sum_cmp a b

-- that is an equivalence
pub equals_equiv : IsEquivalence equals
equals_equiv = eq_by_cmp_equiv sum_total

-- equal terms are the same
pub equals_same : (a b : PlainSum) → equals a b ≡ true → a ≡ b
equals_same a b e = sum_same a b ((Equal-is (sum_cmp a b)).0 e)

-- equal terms are hashed alike
pub equals_alike : (a b : PlainSum) → IsTrue (equals a b) → fed.u64 (digest a) ≡ fed.u64 (digest b)
equals_alike a b e = ap (λ t. fed.u64 (digest t)) (equals_same a b e)
