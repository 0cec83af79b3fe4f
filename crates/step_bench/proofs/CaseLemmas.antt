-- Where there is an address of a case, there is a case.
use Rattle.std.proofs.Common.{◌≡◌, ℕ, ◌<◌, List, Option, Some, None, map, length, sym, subst, ◌∙◌, ap}
use Rattle.std.proofs.lemmas.List.{length-map}
use Rattle.std.specs.Option.{option_map, IsSomeAnd}
use Rattle.step_rules.specs.Cases.{Case}

pub some_case : (o : Option (List Case)) (xs : List ℕ) → option_map (map (λ c. c.address)) o ≡ Some xs → 0 < length xs → IsSomeAnd o (λ cs. 0 < length cs)
some_case None xs e h = absurd (cc)
some_case (Some cs) xs e h =
    let same : map (λ c. c.address) cs ≡ xs = cc in
    subst (λ n. 0 < n) (sym (ap length same) ∙ length-map cs (λ c. c.address)) h
