-- The law of a step, with operands in memory or not.
use Rattle.std.specs.Prelude.{◌≡◌, ℕ, Some, List, Any}
use Rattle.sym_terms.specs.Value.{Valuation}
use Rattle.predicates.specs.Predicate.{Predicate}
use Rattle.x86_instr.specs.declared.class.Class.{Class}
use Rattle.x86_instr.specs.declared.class.Class.TheVariants as class
use Rattle.x86_instr.specs.declared.instr.Instr.{Instr}
use Rattle.x86_instr.specs.Classes.{class_of}
use Rattle.x86_instr.specs.Fits.{InForm}
use Rattle.x86_machine.specs.State.{State, IsState}
use Rattle.x86_machine.specs.Next.{next}
use Rattle.x86_machine.specs.Named.{named_value}
use Rattle.forest_meaning.specs.Assumed.{Keeps, Loaded}
use Rattle.predicate_meaning.specs.Sat.{Sat}
use Rattle.predicate_meaning.specs.Begin.{renamed}
use Rattle.step_rules.specs.View.{View}
use Rattle.step_rules.specs.Cases.{Case, cases}

-- an instruction of the class goes on at the next one, or jumps
abbrev pub IsOrdinary : Class → Type 0
IsOrdinary class.Calculation = Unit {0}
IsOrdinary class.Transfer = Unit {0}
IsOrdinary class.Division = Unit {0}
IsOrdinary class.Jump = Unit {0}
IsOrdinary class.Call = ⊥
IsOrdinary class.Return = ⊥
IsOrdinary class.SystemCall = ⊥
IsOrdinary class.Stop = ⊥

-- some case has the state's address and holds of it
abbrev pub SomeCase : List Case → State → Valuation → Type 0
SomeCase cases t u = Any (λ c. (c.address ≡ t.rip) × Sat c.pred t u) cases

-- each ordinary instruction leads to one of its cases; frame and pairs are assumed under the site's new name
abbrev pub StepLaw : Type 0
StepLaw =
    (v : View) (i : Instr) (p : Predicate) (s t : State) (u : Valuation) (choice : ℕ) (cs : List Case) →
    let u' = renamed u i.addr (named_value s i t) in
    IsOrdinary (class_of i.op) → IsState s → InForm i → Keeps u' v.known → Loaded v.known.image s.memory →
    Sat p s u → next s i choice ≡ Some t → cases v i p ≡ Some cs → SomeCase cs t u'
