-- What makes a graph valid: the rules of its functions, sites, vertices and edges, each as a fact.
use Rattle.std.specs.Prelude.{◌≡◌, ℕ, false, Some, [], ◌∷◌, ◌⊎◌, List, All, IsSome}
use Rattle.std.specs.List.{AllZip}
use Rattle.std.specs.Option.{IsSomeAnd}
use Rattle.simulation.specs.World.{World, Rules, View, Case, Class, Ordinary, Calling, System, Returning}
use Rattle.simulation.specs.World.{Kind, Step, Call, Outside, Return, End}
use Rattle.simulation.specs.Graph.{vertex_at, callee, view_of}

module _ (world : World) where
  -- an instruction of the image at a site of a function
  pub record Place : Type 0 where
    pub function : world.Function
    pub site : world.Site
    pub instr : world.Instr

  -- what the step rules see of the place's site
  abbrev pub view_at : Place → View world.Region
  view_at place = view_of world place.function place.site

  -- the instruction is of a right class, and the fact holds of each vertex of its site
  pub record EachVertex
      (place : Place) (IsRight : Class → Type 0) (Holds : world.Vertex → Type 0) : Type 0 where
    pub class : IsRight (world.class_of place.instr)
    pub each : All Holds (world.vertices place.site)

  -- the image has an instruction at the site's address, and the fact holds of that place
  abbrev pub AtInstr : world.Function → world.Site → (Place → Type 0) → Type 0
  AtInstr function site Holds =
      IsSomeAnd (world.instr_at (world.address site))
      (λ instr. Holds (record { function = function; site = site; instr = instr }))

module _ (world : World) (checks : Rules world) where
  -- an edge leads to its case's address, to a vertex that is there, which the case entails
  pub record EdgeHolds
      (function : world.Function) (case : Case world.Pred) (edge : ℕ × ℕ) : Type 0 where
    pub address : edge.0 ≡ case.address
    pub vertex :
        IsSomeAnd (vertex_at world function edge.0 edge.1)
        (λ vertex. checks.Entails case.pred (world.pred vertex))

  -- the edges stand for the cases, one for each, in order
  abbrev pub EdgesHold : world.Function → List (Case world.Pred) → List (ℕ × ℕ) → Type 0
  EdgesHold function cases edges = AllZip (EdgeHolds function) cases edges

  -- the rules of a vertex at a `step` site
  pub record StepHolds (place : Place world) (vertex : world.Vertex) : Type 0 where
    pub fork : checks.ForkHolds (view_at world place) place.instr (world.pred vertex)
    pub cases :
        IsSomeAnd (checks.cases (view_at world place) place.instr (world.pred vertex))
        (λ cases. EdgesHold place.function cases (world.out vertex))

  -- the one case after a call of either kind, or after a syscall
  abbrev pub case_after : Place world → world.Pred → Case world.Pred
  case_after place pred =
      record {
        address = world.next_address (world.address place.site) place.instr;
        pred = checks.after (view_at world place) place.instr pred;
      }

  -- the rules of a vertex at an `outside` site
  pub record AfterHolds (place : Place world) (vertex : world.Vertex) : Type 0 where
    pub keeps : checks.KeepsHold (view_at world place) place.instr (world.pred vertex)
    pub case :
        EdgesHold place.function (case_after place (world.pred vertex) ∷ []) (world.out vertex)

  -- the rules of a vertex at a `call` site
  pub record CallHolds (place : Place world) (target : ℕ) (vertex : world.Vertex) : Type 0 where
    pub goes :
        checks.target (view_at world place) place.instr (world.pred vertex) ≡ Some target
    pub after : AfterHolds place vertex

  -- the rules of a site of each kind; an `end` site has none
  abbrev pub KindHolds : world.Graph → world.Function → world.Site → Kind → Type 0
  KindHolds graph function site Step =
      AtInstr world function site
      (λ place. EachVertex world place (λ class. class ≡ Ordinary) (StepHolds place))
  KindHolds graph function site (Call target) =
      IsSome (callee world graph target) ×
      AtInstr world function site
      (λ place. EachVertex world place (λ class. class ≡ Calling) (CallHolds place target))
  KindHolds graph function site Outside =
      AtInstr world function site
      (λ place. EachVertex world place
      (λ class. (class ≡ Calling) ⊎ (class ≡ System)) (AfterHolds place))
  KindHolds graph function site Return =
      AtInstr world function site
      (λ place.
      EachVertex world place (λ class. class ≡ Returning)
      (λ vertex. checks.Returns (world.pred vertex)))
  KindHolds graph function site (End reason) = Unit {0}

  -- all rules of a site
  pub record SiteHolds
      (graph : world.Graph) (function : world.Function) (site : world.Site) : Type 0 where
    pub fact : checks.SiteFact (world.kind site) (view_of world function site)
    pub kind : KindHolds graph function site (world.kind site)

  -- all rules of a function: vertex 0 at its entry has the entry predicate, and each site holds
  pub record FunctionHolds (graph : world.Graph) (function : world.Function) : Type 0 where
    pub entry :
        IsSomeAnd (vertex_at world function (world.entry function) 0)
        (λ vertex. checks.IsEntry (world.pred vertex))
    pub sites : All (SiteHolds graph function) (world.sites function)

  -- each function that is not refused holds
  abbrev pub Valid : world.Graph → Type 0
  Valid graph =
      All (λ function. world.refused function ≡ false → FunctionHolds graph function)
      (world.functions graph)

  -- each predicate of a function is one of those that the laws speak of
  abbrev pub HasForms : world.Function → Type 0
  HasForms function =
      All (λ site. All (λ vertex. checks.IsFormed (world.pred vertex)) (world.vertices site))
      (world.sites function)

  -- and each of a graph
  abbrev pub IsFormedGraph : world.Graph → Type 0
  IsFormedGraph graph = All HasForms (world.functions graph)
