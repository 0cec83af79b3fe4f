-- What a step means, on what predicates read as.
use Rattle.std.specs.Prelude.{ℕ, Bool, List, Option}
use Rattle.lift_rounds.specs.declared.data.Case.{Case}

-- the cases that a step makes of a predicate, and how predicates are compared and weakened
pub record Meaning (R : Type 0) : Type 0 where
  -- the cases at an address, where the vertices of the address have these predicates and the vertex this one; none where they
  -- aren't resolved though they have to be
  pub cases_of : ℕ → List (Option R) → R → Option (List (Case R))
  -- whether the vertices after an address are told apart by the case
  pub forks : ℕ → Bool
  -- the first, with the conjuncts that the second entails
  pub weakened : R → R → R
  -- whether the first entails the second
  pub entails : R → R → Bool
  -- the number of conjuncts
  pub weight : R → ℕ
