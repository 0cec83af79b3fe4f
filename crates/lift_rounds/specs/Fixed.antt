-- Cases whose addresses don't depend on what is known.
use Rattle.std.specs.Prelude.{◌≡◌, ◌⊎◌, ℕ, List, [], Option, Some, None}
use Rattle.std.specs.Option.{option_map}
use Rattle.lift_graph.specs.Graph.{address_at}
use Rattle.lift_graph.specs.declared.graph.Key.{Key}
use Rattle.lift_rounds.specs.Meaning.{Meaning}
use Rattle.lift_rounds.specs.Known.{Known, cases_at, addresses}
use Rattle.lift_rounds.specs.declared.data.Case.{Case}

-- at an address there are always cases, and their addresses don't depend on what is known
abbrev pub IsFixedAt : {R : Type 0} → Meaning R → ℕ → Type 0
IsFixedAt {R} m address = (as' : List ℕ) × ((site : List (Option R)) (p : R) → option_map addresses (m.cases_of address site p) ≡ Some as')

-- there are none at some predicate, though they have to be
abbrev pub IsUnresolvedAt : {R : Type 0} → Meaning R → ℕ → Type 0
IsUnresolvedAt {R} m address = (site : List (Option R)) × (p : R) × (m.cases_of address site p ≡ None)

-- the cases of some predicate at an address
abbrev pub AreCases : {R : Type 0} → Meaning R → ℕ → List (Case R) → Type 0
AreCases {R} m address cs = (site : List (Option R)) × (p : R) × (m.cases_of address site p ≡ Some cs)

-- a vertex has no cases yet, or those of some predicate
abbrev pub IsFilled : {R : Type 0} → Meaning R → List Key → List (Known R) → Type 0
IsFilled m keys made = (v : ℕ) → (cases_at made v ≡ []) ⊎ AreCases m (address_at keys v) (cases_at made v)
