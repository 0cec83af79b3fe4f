-- Where a jump leads, by what is known then.
use Rattle.std.proofs.Common.{◌≡◌, ℕ, List, Option, ap, ◌∙◌}
use Rattle.std.specs.Prelude.{IfOk, map}
use Rattle.std.specs.Option.{option_map}
use Rattle.std.specs.declared.result.Result.{Result}
use Rattle.std.specs.declared.result.Result.TheVariants.{Ok, Err}
use Rattle.sym_terms.specs.Plain.{PlainSum}
use Rattle.predicates.specs.Predicate.{Predicate}
use Rattle.step_rules.specs.View.{View}
use Rattle.step_rules.specs.Cases.{case, jump_targets, cases_to}

-- the cases of a jump to a term, of its targets, where what is known and the term are the same
pub by_targets : {A E : Type 0} (targets : A → Option (List ℕ)) (r : Result A E) (v : View) (p q : Predicate) (s t : Option PlainSum) → p ≡ q → s ≡ t
    → IfOk r (λ x. targets x ≡ jump_targets v p s) → IfOk r (λ x. option_map (map (λ a. case a p)) (targets x) ≡ cases_to v q t)
by_targets targets (Ok x) v p q s t known term h =
    ap (option_map (map (λ (a : ℕ). case a p))) h ∙ (λ i. cases_to v (known i) (term i))
by_targets targets (Err e) v p q s t known term h = tt
