-- The theorem over runs, and what later theorems take from its proof.
use Rattle.std.specs.Prelude.{◌≡◌, Some, List, ◌++◌, IfSome}
use Rattle.std.specs.Option.{IsSomeAnd}
use Rattle.simulation.specs.World.{World, Rules}
use Rattle.simulation.specs.Graph.{callee}
use Rattle.simulation.specs.Valid.{Valid, IsFormedGraph}
use Rattle.simulation.specs.Track.{Activation, Track, start, outermost}
use Rattle.simulation.specs.Moves.{Move, moved, row, run}
use Rattle.simulation.specs.Keeps.{RowKeeps, MomentKeeps, Keeps}
use Rattle.simulation.specs.Laws.{Laws}
use Rattle.simulation.specs.Safe.{Safe}
use Rattle.simulation.specs.Invariant.{Invariant}

module _ (world : World) where
  -- the fact holds at the end of every run from a function's entry that keeps what is printed
  abbrev pub AtEachEnd : world.Graph → (Track world → Type 0) → Type 0
  AtEachEnd graph Fact =
      (state : world.State) (function : world.Function) →
      world.IsState state → callee world graph (world.rip state) ≡ Some function →
      (moves : List (Move world)) → Keeps world graph (start world function state) moves →
      IsSomeAnd (run world graph (start world function state) moves) Fact

  -- every run of the graph that keeps what it prints is safe
  abbrev pub SafeRuns : world.Graph → Type 0
  SafeRuns graph = AtEachEnd graph (Safe world)

  -- what a run keeps, each of its beginnings keeps
  abbrev pub Beginnings : Type 0
  Beginnings =
      (graph : world.Graph) (track : Track world) (moves more : List (Move world)) →
      Keeps world graph track (moves ++ more) → Keeps world graph track moves

  -- two activations of one function began in one state
  pub record SameOrigin (old new : Activation world) : Type 0 where
    pub function : new.function ≡ old.function
    pub entry : new.entry ≡ old.entry

  -- no run changes the function and the entry state of the activation that began first
  abbrev pub OriginStays : Type 0
  OriginStays =
      (graph : world.Graph) (track : Track world) (moves : List (Move world)) →
      IfSome (run world graph track moves)
      (λ later.
      SameOrigin (outermost world track.inner track.callers)
      (outermost world later.inner later.callers))

module _ (world : World) (checks : Rules world) where
  -- every valid graph has safe runs alone
  abbrev pub ValidIsSafe : Type 0
  ValidIsSafe =
      (graph : world.Graph) → IsFormedGraph world checks graph → Valid world checks graph →
      SafeRuns world graph

  -- the theorem: the laws of one instruction make every valid graph safe
  abbrev pub Simulates : Type 0
  Simulates = Laws world checks → ValidIsSafe

  -- the invariant holds at the end of every such run
  abbrev pub HoldsThroughout : Type 0
  HoldsThroughout =
      Laws world checks → (graph : world.Graph) → IsFormedGraph world checks graph →
      Valid world checks graph → AtEachEnd world graph (Invariant world checks graph)

  -- the invariant holds at every start
  abbrev pub HoldsAtStart : Type 0
  HoldsAtStart =
      Laws world checks → (graph : world.Graph) → IsFormedGraph world checks graph →
      Valid world checks graph →
      (state : world.State) (function : world.Function) →
      world.IsState state → callee world graph (world.rip state) ≡ Some function →
      Invariant world checks graph (start world function state)

  -- one move that keeps what is printed keeps the invariant
  abbrev pub OneMove : Type 0
  OneMove =
      Laws world checks → (graph : world.Graph) → IsFormedGraph world checks graph →
      Valid world checks graph →
      (track : Track world) (move : Move world) → Invariant world checks graph track →
      MomentKeeps world track → RowKeeps world track (row world graph track move) →
      IfSome (moved world track (row world graph track move)) (Invariant world checks graph)
