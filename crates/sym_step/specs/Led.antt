-- The cases that are held, as plain data.
use Rattle.std.specs.Prelude.{ℕ, List, [], ◌∷◌, ◌++◌, Option, map, refl}
use Rattle.std.specs.Coded.{Coded, coded×, coded_ℕ, code_by}
use Rattle.memory_regions.specs.declared.region.Region.{Region}
use Rattle.predicates.specs.declared.bound.Bound.{Bound}
use Rattle.predicates.specs.Predicate.{Predicate}
use Rattle.predicates.specs.Codes.{coded_predicate}
use Rattle.x86_instr.specs.declared.instr.Instr.{Instr}
use Rattle.step_rules.specs.View.{View, parted}
use Rattle.step_rules.specs.Drop.{dropped}
use Rattle.step_rules.specs.Executed.{executed}
use Rattle.step_rules.specs.Cases.{Case, case, aliased}
use Rattle.step_values.specs.Parts.{with_bounds}
use Rattle.step_effects.specs.Chosen.{bounds_or}
use Rattle.sym_step.specs.declared.cases.Led.{Led}
use Rattle.sym_step.specs.declared.cases.Led.TheVariants.{Nowhere, At, Branch, Fork, Each}

-- how the logic keeps a case
abbrev pub coded_case : Coded Case
coded_case =
    code_by (ℕ × Predicate) (coded× coded_ℕ coded_predicate) (λ c. (c.address, c.pred)) (λ p. case p.0 p.1) (λ c. refl)

-- the predicate with the bounds that were made, where there are such
abbrev pub bounded : Predicate → Option (List Bound) → Predicate
bounded p made = with_bounds p (bounds_or made p.bounds)

-- the cases, of which the last knows this, and with it each but those of a fork
abbrev pub led_cases : Led → Predicate → List Case
led_cases Nowhere p = []
led_cases (At a) p = case a p ∷ []
led_cases (Branch taken passed holding failing) p = case taken (bounded p holding) ∷ case passed (bounded p failing) ∷ []
led_cases (Fork a known) p = map (case a) (known.items ++ p ∷ [])
led_cases (Each addresses) p = map (λ a. case a p) addresses.items

-- what is known after an instruction that goes on where a pair's regions are one, and where they are separate
abbrev pub others : View → Instr → Predicate → Region × Region → List Predicate
others v i p pair =
    executed i.op v i (aliased (dropped i p) pair)
    ∷ executed i.op (parted v pair) i (dropped i p)
    ∷ []
