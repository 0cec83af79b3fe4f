-- A fact of a case by its place, and how many cases a fork has.
use Rattle.std.proofs.Common.{◌≡◌, ℕ, zero, suc, ◌+◌, ◌<◌, List, [], ◌∷◌, ◌++◌, length, take, add-one, Some, refl, sym, ap, subst, ◌∙◌, arith}
use Rattle.std.specs.Prelude.{IfSome, slice_get, map}
use Rattle.predicates.specs.Predicate.{Predicate}
use Rattle.step_rules.specs.Cases.{Case, case}

module _ (P : Case → Type 0) where
  pub of_each : (xs : List ℕ) (p : Predicate) (k : ℕ) → ((a : ℕ) → slice_get xs k ≡ Some a → P (case a p)) → IfSome (slice_get (map (λ a. case a p) xs) k) P
  of_each [] p k h = tt
  of_each (a ∷ xs) p zero h = h a refl
  of_each (a ∷ xs) p (suc k) h = of_each xs p k h

  -- the cases of a fork, whatever is known in each
  pub of_any : (a : ℕ) (known : List Predicate) (k : ℕ) → ((p : Predicate) → P (case a p)) → IfSome (slice_get (map (case a) known) k) P
  of_any a [] k h = tt
  of_any a (p ∷ known) zero h = h p
  of_any a (p ∷ known) (suc k) h = of_any a known k h

  -- the cases of a fork, by what is known in each
  pub of_known : (a : ℕ) (known : List Predicate) (k : ℕ) (p : Predicate) → slice_get known k ≡ Some p → P (case a p) → IfSome (slice_get (map (case a) known) k) P
  of_known a [] k p e h = tt
  of_known a (q ∷ known) zero p e h = let same : q ≡ p = cc in subst (λ r. P (case a r)) (sym same) h
  of_known a (q ∷ known) (suc k) p e h = of_known a known k p e h

-- the cases of a fork are one more than those before the last
pub length_with_last : (a : ℕ) (known : List Predicate) (p : Predicate) → length (map (case a) (known ++ p ∷ [])) ≡ length known + 1
length_with_last a [] p = refl
length_with_last a (q ∷ known) p = omega (arith, length_with_last a known p)

-- the addresses of one case more
more_addresses : (cs : List Case) (k a : ℕ) → k < length cs → IfSome (slice_get cs k) (λ c. a ≡ c.address)
    → map (λ c. c.address) (take (suc k) cs) ≡ map (λ c. c.address) (take k cs) ++ a ∷ []
more_addresses [] k a h e = absurd (omega arith)
more_addresses (c ∷ cs) zero a h e = λ i. sym e i ∷ []
more_addresses (c ∷ cs) (suc k) a h e =
    let within : k < length cs = omega arith in
    ap (λ xs. c.address ∷ xs) (more_addresses cs k a within e)

pub one_more : (cs : List Case) (k a : ℕ) → k < length cs → IfSome (slice_get cs k) (λ c. a ≡ c.address)
    → map (λ c. c.address) (take (k + 1) cs) ≡ map (λ c. c.address) (take k cs) ++ a ∷ []
one_more cs k a h e = ap (λ n. map (λ c. c.address) (take n cs)) (add-one k) ∙ more_addresses cs k a h e
