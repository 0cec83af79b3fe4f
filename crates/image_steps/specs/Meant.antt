-- What a step of an executable means to rounds.
use Rattle.std.specs.Prelude.{ℕ, false, List, [], ◌∷◌, map, Option, Some, None}
use Rattle.std.specs.Option.{option_map}
use Rattle.predicates.specs.Predicate.{Predicate}
use Rattle.step_rules.specs.Cases as step
use Rattle.lift_rounds.specs.Meaning.{Meaning}
use Rattle.lift_rounds.specs.declared.data.Case.{Case}
use Rattle.site_lines.specs.Subject.{Subject}
use Rattle.site_lines.specs.Lines.{site_cases}
use Rattle.image_steps.specs.Shaped.{entails, weakened, weight}

-- what is known, where it is
abbrev pub known_among : List (Option Predicate) → List Predicate
known_among [] = []
known_among (None ∷ ps) = known_among ps
known_among (Some p ∷ ps) = p ∷ known_among ps

-- a case as rounds have it
abbrev pub case_of : step.Case → Case Predicate
case_of c = record { address = c.address; pred = c.pred }

-- the cases of a vertex at an address whose vertices have these predicates
abbrev pub cases_at : Subject → ℕ → List (Option Predicate) → Predicate → Option (List (Case Predicate))
cases_at s address site p = option_map (map case_of) (site_cases s address (known_among site) p)

-- the step; no site forks
abbrev pub meaning_of : Subject → Meaning Predicate
meaning_of s = record {
  cases_of = cases_at s;
  forks = λ address. false;
  weakened = weakened;
  entails = entails;
  weight = weight;
}
