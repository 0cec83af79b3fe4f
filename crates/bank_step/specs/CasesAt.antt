-- Cases whose predicates are numbers of a bank, read back through it.
use Rattle.std.specs.Prelude.{◌≡◌, ℕ, List, map, All}
use Rattle.sym_terms.specs.Plain.{PlainSum}
use Rattle.predicates.specs.Predicate.{Predicate}
use Rattle.bank_values.specs.declared.pred.BankPred.{BankPred}
use Rattle.bank_values.specs.ReadBack.{predicate_at, IsPred, IsBelow}
use Rattle.step_rules.specs.Cases.{Case, case}

-- an address and the predicate there
abbrev pub pair_at : List PlainSum → ℕ × BankPred → ℕ × Predicate
pair_at terms c = (c.0, predicate_at terms c.1)

-- the same as a case
abbrev pub case_at : List PlainSum → ℕ × BankPred → Case
case_at terms c = case c.0 (predicate_at terms c.1)

-- its numbers are below n
abbrev pub IsCaseBelow : ℕ → ℕ × BankPred → Type 0
IsCaseBelow n c = IsBelow n c.1

-- it is in form
abbrev pub IsCasePred : List PlainSum → ℕ × BankPred → Type 0
IsCasePred terms c = IsPred (predicate_at terms c.1)

-- the cases are these addresses, each with what one predicate says
pub record AreAlike (p : BankPred) (addresses : List ℕ) (out : List (ℕ × BankPred)) : Type 0 where
  pub value : (terms : List PlainSum) → map (case_at terms) out ≡ map (λ a. case a (predicate_at terms p)) addresses
  pub within : (n : ℕ) → IsBelow n p → All (IsCaseBelow n) out
  pub formed : (terms : List PlainSum) → IsPred (predicate_at terms p) → All (IsCasePred terms) out
