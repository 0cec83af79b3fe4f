-- A place among the addresses of the cases is one among the cases.
use Rattle.std.proofs.Common.{◌≡◌, ℕ, ◌<◌, List, Option, Some, None, map, length, sym, subst, ◌∙◌, ap}
use Rattle.std.proofs.lemmas.List.{length-map}
use Rattle.std.specs.Option.{option_map, IsSomeAnd}
use Rattle.step_rules.specs.Cases.{Case}

pub case_within : (o : Option (List Case)) (xs : List ℕ) (k : ℕ) → option_map (map (λ c. c.address)) o ≡ Some xs → k < length xs → IsSomeAnd o (λ cs. k < length cs)
case_within None xs k e h = absurd (cc)
case_within (Some cs) xs k e h =
    let same : map (λ c. c.address) cs ≡ xs = cc in
    subst (λ n. k < n) (sym (ap length same) ∙ length-map cs (λ c. c.address)) h
