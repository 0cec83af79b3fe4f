-- The theorem by induction over the moves, and what goes with it.
use Rattle.std.proofs.Common.{◌≡◌, List, [], ◌∷◌, refl, ◌∙◌}
use Rattle.std.specs.Prelude.{Option, Some, None, ◌++◌, IfSome}
use Rattle.std.specs.Option.{IsSomeAnd, option_and_then}
use Rattle.simulation.specs.World.{World, Rules}
use Rattle.simulation.specs.Valid.{FunctionHolds, Valid, HasForms, IsFormedGraph}
use Rattle.simulation.specs.Track.{Activation, Waiting, Track, start, outermost}
use Rattle.simulation.specs.Moves.{Move, Row, NoRun, Steps, Strays, Enters, Leaves, Resumes, Passes, with_name, resumed, left, moved, row, run}
use Rattle.simulation.specs.Keeps.{Keeps}
use Rattle.simulation.specs.Laws.{Laws}
use Rattle.simulation.specs.Safe.{Safe}
use Rattle.simulation.specs.Invariant.{Invariant}
use Rattle.simulation.specs.Theorem.{Simulates, HoldsThroughout, HoldsAtStart, OneMove, Beginnings, SameOrigin, OriginStays}
use Rattle.simulation.proofs.ListLemmas.{present_weaker}
use Rattle.simulation.proofs.GraphLemmas.{begins, callee_holds}
use Rattle.simulation.proofs.RowLemmas.{row_facts}
use Rattle.simulation.proofs.InvariantLemmas.{row_holds}

module _ (world : World) (checks : Rules world) where
  -- one move keeps the invariant
  pub one_move : OneMove world checks
  one_move laws graph forms valid track move holds moment keeps =
      row_holds world checks laws graph forms valid track holds moment (row world graph track move) (row_facts world graph track move) keeps

  -- the invariant holds at a start
  pub at_start : HoldsAtStart world checks
  at_start laws graph forms valid state function range called =
      let rules : (FunctionHolds world checks graph function × HasForms world checks function) × (world.entry function ≡ world.rip state) = callee_holds world checks graph (world.rip state) function forms valid called in
      record {
        safe = record { vertex = begins world checks graph laws function state rules.0 range rules.1; returned = tt };
        alive = record { state = range; lawful = record { rules = rules.0.0; forms = rules.0.1; began = laws.begin.fresh state range }; chain = tt };
      }

  module _ (laws : Laws world checks) (graph : world.Graph) (forms : IsFormedGraph world checks graph) (valid : Valid world checks graph) where
    -- a run that keeps what is printed keeps the invariant
    pub from_track :
        (moves : List (Move world)) (track : Track world) → Invariant world checks graph track → Keeps world graph track moves →
        IsSomeAnd (run world graph track moves) (Invariant world checks graph)
    from_track [] track holds keeps = holds
    from_track (move ∷ moves) track holds keeps =
        go (moved world track (row world graph track move)) (one_move laws graph forms valid track move holds keeps.0 keeps.1) keeps.2
        (λ later here rest. from_track moves later here rest)
      where
        go :
            (o : Option (Track world)) → IfSome o (Invariant world checks graph) → IsSomeAnd o (λ later. Keeps world graph later moves) →
            ((later : Track world) → Invariant world checks graph later → Keeps world graph later moves → IsSomeAnd (run world graph later moves) (Invariant world checks graph)) →
            IsSomeAnd (option_and_then (λ later. run world graph later moves) o) (Invariant world checks graph)
        go None here rest on = rest
        go (Some later) here rest on = on later here rest

  -- the invariant holds at the end of each run that keeps what is printed
  pub throughout : HoldsThroughout world checks
  throughout laws graph forms valid state function range called moves keeps =
      from_track laws graph forms valid moves (start world function state) (at_start laws graph forms valid state function range called) keeps

  -- the theorem
  pub simulates : Simulates world checks
  simulates laws graph forms valid state function range called moves keeps =
      present_weaker (Invariant world checks graph) (Safe world) (run world graph (start world function state) moves)
      (λ track holds. holds.safe) (throughout laws graph forms valid state function range called moves keeps)

  -- each beginning of a run keeps what the run keeps
  pub beginnings : Beginnings world
  beginnings graph track [] [] keeps = keeps
  beginnings graph track [] (next ∷ more) keeps = keeps.0
  beginnings graph track (move ∷ moves) more keeps = (
    keeps.0,
    keeps.1,
    present_weaker (λ later. Keeps world graph later (moves ++ more)) (λ later. Keeps world graph later moves) (moved world track (row world graph track move))
        (λ later rest. beginnings graph later moves more rest) keeps.2,
  )

  -- one track has the origin of another
  abbrev SameStart : Track world → Track world → Type 0
  SameStart track later =
      SameOrigin world (outermost world track.inner track.callers) (outermost world later.inner later.callers)

  deeper :
      (callers : List (Waiting world)) (first second : Activation world) → SameOrigin world first second →
      SameOrigin world (outermost world first callers) (outermost world second callers)
  deeper [] first second same = same
  deeper (waiting ∷ callers) first second same = record { function = refl; entry = refl }

  left_origin :
      (track : Track world) (next : world.State) (callers : List (Waiting world)) → track.callers ≡ callers →
      SameOrigin world (outermost world track.inner callers)
      (outermost world (left world track.inner next callers).inner (left world track.inner next callers).callers)
  left_origin track next [] is = record { function = refl; entry = refl }
  left_origin track next (waiting ∷ callers) is =
      deeper callers waiting.caller (left world track.inner next (waiting ∷ callers)).inner (record { function = refl; entry = refl })

  moved_origin : (track : Track world) (row : Row world) → IfSome (moved world track row) (SameStart track)
  moved_origin track NoRun = tt
  moved_origin track (Steps site instr next) =
      deeper track.callers track.inner (with_name world track.inner (world.rip track.state) (world.named_value track.state instr next))
      (record { function = refl; entry = refl })
  moved_origin track (Strays next) = deeper track.callers track.inner track.inner (record { function = refl; entry = refl })
  moved_origin track (Enters site instr function next) =
      deeper track.callers track.inner track.inner (record { function = refl; entry = refl })
  moved_origin track (Leaves site instr next) = left_origin track next track.callers refl
  moved_origin track (Resumes site instr next) =
      deeper track.callers track.inner (resumed world track.inner track.state next) (record { function = refl; entry = refl })
  moved_origin track Passes = deeper track.callers track.inner track.inner (record { function = refl; entry = refl })

  same_twice :
      (o : Option (Track world)) (track later : Track world) → SameStart track later → IfSome o (SameStart later) →
      IfSome o (SameStart track)
  same_twice None track later one two = tt
  same_twice (Some last) track later one two =
      record { function = two.function ∙ one.function; entry = two.entry ∙ one.entry }

  -- no run changes where its outermost activation began
  pub origin_stays : OriginStays world
  origin_stays graph track [] = record { function = refl; entry = refl }
  origin_stays graph track (move ∷ moves) =
      go (moved world track (row world graph track move)) (moved_origin track (row world graph track move))
      (λ later. origin_stays graph later moves)
    where
      go :
          (o : Option (Track world)) → IfSome o (SameStart track) →
          ((later : Track world) → IfSome (run world graph later moves) (SameStart later)) →
          IfSome (option_and_then (λ later. run world graph later moves) o) (SameStart track)
      go None same on = tt
      go (Some later) same on = same_twice (run world graph later moves) track later same (on later)
