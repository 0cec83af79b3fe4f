-- The laws of runs that depend on no rule of a step.
use Rattle.std.specs.Prelude.{◌≡◌, ℕ}
use Rattle.simulation.specs.Laws.{Point, LeadsTo, Restores}
use Rattle.simulation.specs.World.{Returning}
use Rattle.elf_image.specs.declared.image.Image.{Image}
use Rattle.sym_terms.specs.Value.{Valuation}
use Rattle.mem_forest.specs.Shape.{IsForest}
use Rattle.predicates.specs.Predicate.{Predicate}
use Rattle.predicates.specs.Entry.{entry_predicate}
use Rattle.predicates.specs.Entails.{Entails}
use Rattle.x86_machine.specs.State.{State, IsState}
use Rattle.predicate_meaning.specs.Begin.{fresh, Began}
use Rattle.predicate_meaning.specs.Sat.{Sat}
use Rattle.predicate_meaning.specs.Returns.{Returns}
use Rattle.graph_runs.specs.Classes.{class_of}
use Rattle.graph_runs.specs.World.{x86}

-- the entry predicate holds of each state in range, under the valuation that begins there
abbrev pub EntryLaw : Type 0
EntryLaw = (state : State) → IsState state → Sat entry_predicate state (fresh state)

-- what a predicate that holds entails, holds
abbrev pub EntailsLaw : Type 0
EntailsLaw =
    (p q : Predicate) (state : State) (u : Valuation) →
    IsForest q.forest → Entails p q → Sat p state u → Sat q state u

-- what a verified return gives back
abbrev pub ReturnLaw : Type 0
ReturnLaw =
    (image : Image) (point : Point (x86 image)) (choice : ℕ) (later : State) →
    IsState point.state → Began point.valuation point.entry →
    Sat point.pred point.state point.valuation → Returns point.pred →
    class_of point.instr ≡ Returning → LeadsTo (x86 image) point choice later →
    Restores (x86 image) point later
