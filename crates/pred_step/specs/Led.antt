-- The cases that an instruction leads to, of the predicates that were made.
use Rattle.std.specs.Prelude.{ℕ, List, map}
use Rattle.predicates.specs.Predicate.{Predicate}
use Rattle.step_rules.specs.Cases.{Case, case}
use Rattle.pred_step.specs.declared.cases.Led.{Led}
use Rattle.pred_step.specs.declared.cases.Led.TheVariants.{Apart, Alike}

-- a case by its address and its predicate
abbrev pub plain_case : ℕ × Predicate → Case
plain_case c = case c.0 c.1

-- the cases: each with a predicate of its own, or all with one that is given
abbrev pub led_cases : Predicate → Led → List Case
led_cases p (Apart cases) = map plain_case cases.items
led_cases p (Alike addresses) = map (λ a. case a p) addresses.items
