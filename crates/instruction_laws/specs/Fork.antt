-- What is known in each of the three cases of a pair that is told apart.
use Rattle.std.specs.Prelude.{◌≡◌, ℕ, Some}
use Rattle.sym_terms.specs.Value.{Valuation, value}
use Rattle.memory_regions.specs.declared.region.Region.{Region}
use Rattle.predicates.specs.Predicate.{Predicate}
use Rattle.x86_instr.specs.declared.instr.Instr.{Instr}
use Rattle.x86_instr.specs.Classes.{class_of, GoesOn}
use Rattle.x86_instr.specs.Fits.{InForm}
use Rattle.x86_machine.specs.State.{State, IsState}
use Rattle.x86_machine.specs.Next.{next}
use Rattle.x86_machine.specs.Named.{named_value}
use Rattle.forest_meaning.specs.Separate.{Separate}
use Rattle.forest_meaning.specs.Assumed.{Keeps, Loaded}
use Rattle.step_rules.specs.View.{View, parted}
use Rattle.step_rules.specs.Drop.{dropped}
use Rattle.step_rules.specs.Executed.{executed}
use Rattle.step_rules.specs.Cases.{aliased}
use Rattle.predicate_meaning.specs.Sat.{Sat}
use Rattle.predicate_meaning.specs.Begin.{renamed}

-- the regions are at one address, or separate, or neither
pub record ForkFacts (v : View) (i : Instr) (p : Predicate) (t : State) (u : Valuation) (pair : Region × Region) : Type 0 where
  pub one : value u pair.0.at ≡ value u pair.1.at → Sat (executed i.op v i (aliased (dropped i p) pair)) t u
  pub separate : Separate (value u pair.0.at) pair.0.bytes (value u pair.1.at) pair.1.bytes → Sat (executed i.op (parted v pair) i (dropped i p)) t u
  pub neither : Sat (executed i.op v i (dropped i p)) t u

-- where a pair is told apart, each case is true where it applies
abbrev pub ForkLaw : Type 0
ForkLaw =
    (v : View) (i : Instr) (p : Predicate) (s t : State) (u : Valuation) (choice : ℕ) (pair : Region × Region) →
    let u' = renamed u i.addr (named_value s i t) in
    GoesOn (class_of i.op) → IsState s → InForm i → Keeps u' v.known →
    Loaded v.known.image s.memory → Sat p s u → next s i choice ≡ Some t →
    ForkFacts v i p t u' pair
