-- What a verdict says of a graph: how the order of breaks and the rules hang together.
use Rattle.std.specs.Prelude.{◌≡◌, ◌↔◌, ◌⊎◌, ℕ, false, is_some, List, [], All}
use Rattle.simulation.specs.Valid.{Valid, FunctionHolds}
use Rattle.elf_image.specs.declared.image.Image.{Image}
use Rattle.graph_data.specs.declared.graph.Function.{Function}
use Rattle.graph_data.specs.declared.graph.Graph.{Graph}
use Rattle.graph_data.specs.WellFormed.{IsFunction, IsWellFormed}
use Rattle.graph_verdict.specs.declared.verdict.Verdict.{Verdict}
use Rattle.graph_verdict.specs.declared.verdict.Verdict.TheVariants as verdict
use Rattle.instr_at.specs.At.{instr_at}
use Rattle.graph_runs.specs.World.{x86}
use Rattle.graph_rules.specs.Rules.{rules}
use Rattle.edge_checker.specs.Decisions.{entries_of}
use Rattle.edge_checker.specs.Breaks.{breaks_of, IsVerdict, IsFunctionVerdict}

-- each rule holds of every function, site, vertex and edge of the graph
abbrev pub IsValid : Image → Graph → Type 0
IsValid image g = Valid (x86 image) (rules image) g

-- each rule holds of the function, as one of the graph, unless it is refused
abbrev pub HoldsIn : Image → Graph → Function → Type 0
HoldsIn image g f = is_some f.refused ≡ false → FunctionHolds (x86 image) (rules image) g f

-- each rule holds of the graph's other functions
abbrev pub OthersHold : Image → Graph → Function → Type 0
OthersHold image g f = All (λ h. (h ≡ f) ⊎ HoldsIn image g h) g.functions

-- a graph has one verdict
abbrev pub OneVerdictLaw : Type 0
OneVerdictLaw =
    (image : Image) (g : Graph) (first second : Verdict) →
    IsVerdict image g first → IsVerdict image g second → first ≡ second

-- it is Valid exactly where the graph is
abbrev pub ValidLaw : Type 0
ValidLaw =
    (image : Image) (g : Graph) → IsWellFormed g →
    IsVerdict image g verdict.Valid ↔ IsValid image g

-- the verdict on a function is Valid exactly where each rule holds of it, in every graph in which the functions that are
-- not refused have the entries
abbrev pub FunctionLaw : Type 0
FunctionLaw =
    (image : Image) (entries : List ℕ) (f : Function) (g : Graph) →
    IsFunction f → IsWellFormed g → entries_of g ≡ entries →
    IsFunctionVerdict image entries f verdict.Valid ↔ HoldsIn image g f

-- there is no break exactly where each rule holds
abbrev pub NoBreakLaw : Type 0
NoBreakLaw =
    (image : Image) (g : Graph) → IsWellFormed g →
    (breaks_of image (instr_at image) g ≡ []) ↔ IsValid image g
