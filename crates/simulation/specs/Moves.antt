-- What each move does to a track, by the kind of the site where it stands.
use Rattle.std.specs.Prelude.{ℕ, Option, Some, None, List, [], ◌∷◌}
use Rattle.std.specs.Option.{option_and_then}
use Rattle.simulation.specs.Registers.{rax}
use Rattle.simulation.specs.World as kinds
use Rattle.simulation.specs.World.{World, Kind, Step, Call, Return, End}
use Rattle.simulation.specs.Graph.{site_at, callee}
use Rattle.simulation.specs.Track.{Activation, Waiting, Status, Live, Passed, Ended, Track, begin}

module _ (world : World) where
  -- one move of a run
  pub data Move : Type 0 where
    -- the machine goes on by one instruction, with a choice
    Plain : (choice : ℕ) → Move
    -- something outside the graph runs, and leaves this state
    Outside : (state : world.State) → Move

  -- what a move turns out to be, with what it finds
  pub data Row : Type 0 where
    -- the list of moves is no run
    NoRun : Row
    -- an ordinary instruction at a `step` site
    Steps : (site : world.Site) (instr : world.Instr) (next : world.State) → Row
    -- an instruction where the function has no site
    Strays : (next : world.State) → Row
    -- a call, with which a function of the graph begins in the next state
    Enters :
        (site : world.Site) (instr : world.Instr) (function : world.Function) (next : world.State) →
        Row
    -- a return
    Leaves : (site : world.Site) (instr : world.Instr) (next : world.State) → Row
    -- something outside has run, and the innermost activation goes on in the next state
    Resumes : (site : world.Site) (instr : world.Instr) (next : world.State) → Row
    -- the track passes an `end` site
    Passes : Row

  -- a row that takes the state after an instruction; no run where there is none
  abbrev pub after_next : (world.State → Row) → Option world.State → Row
  after_next row None = NoRun
  after_next row (Some next) = row next

  -- a row that takes the function that a call begins; no run where there is none
  abbrev pub with_callee : (world.Function → Row) → Option world.Function → Row
  with_callee row None = NoRun
  with_callee row (Some function) = row function

  -- the valuation with the site's name at a value, or as it was where nothing is named
  abbrev pub renamed : world.Valuation → ℕ → Option ℕ → world.Valuation
  renamed valuation address None = valuation
  renamed valuation address (Some value) = world.named valuation address value

  -- the activation with the site's name at a value
  abbrev pub with_name : Activation world → ℕ → Option ℕ → Activation world
  with_name activation address value =
      record {
        function = activation.function;
        entry = activation.entry;
        valuation = renamed activation.valuation address value;
      }

  -- the activation that goes on after a call or a syscall: the site's name is the returned value
  abbrev pub resumed : Activation world → world.State → world.State → Activation world
  resumed activation call next = with_name activation (world.rip call) (Some (world.reg next rax))

  -- the track after a return: the caller goes on, or where there is none the track ends
  abbrev pub left : Activation world → world.State → List (Waiting world) → Track world
  left ended next [] =
      record {
        state = next;
        inner = ended;
        callers = [];
        status = Ended;
        returned = Some (record { ended = ended; caller = None });
      }
  left ended next (waiting ∷ callers) =
      record {
        state = next;
        inner = resumed waiting.caller waiting.call next;
        callers = callers;
        status = Live;
        returned = Some (record { ended = ended; caller = Some waiting });
      }

  -- the live track with this state, innermost activation and callers
  abbrev pub live : world.State → Activation world → List (Waiting world) → Track world
  live state inner callers =
      record { state = state; inner = inner; callers = callers; status = Live; returned = None }

  module _ (graph : world.Graph) (track : Track world) where
    -- the row of a move at a site of a kind: the table of moves
    abbrev pub row_at_kind : world.Site → Kind → Option world.Instr → Move → Row
    row_at_kind site (End reason) instr move = Passes
    row_at_kind site Step (Some instr) (Plain choice) =
        after_next (Steps site instr) (world.next track.state instr choice)
    row_at_kind site (Call target) (Some instr) (Plain choice) =
        with_callee
        (λ function. after_next (Enters site instr function) (world.next track.state instr choice))
        (callee world graph target)
    row_at_kind site Return (Some instr) (Plain choice) =
        after_next (Leaves site instr) (world.next track.state instr choice)
    row_at_kind site kinds.Outside (Some instr) (Outside next) = Resumes site instr next
    row_at_kind site kind instr move = NoRun

    -- the row of a move at a site, or where there is no site
    abbrev pub row_at : Option world.Site → Option world.Instr → Move → Row
    row_at (Some site) instr move = row_at_kind site (world.kind site) instr move
    row_at None (Some instr) (Plain choice) =
        after_next Strays (world.next track.state instr choice)
    row_at None instr move = NoRun

    -- the row of a move by the track's status: a passed or ended track takes none
    abbrev pub row_while : Status → Move → Row
    row_while Live move =
        row_at (site_at world track.inner.function (world.rip track.state))
        (world.instr_at (world.rip track.state)) move
    row_while Passed move = NoRun
    row_while Ended move = NoRun

    -- the row of a move
    abbrev pub row : Move → Row
    row move = row_while track.status move

  -- the track after a row; none where the list is no run
  abbrev pub moved : Track world → Row → Option (Track world)
  moved track NoRun = None
  moved track (Steps site instr next) =
      Some
      (live next
      (with_name track.inner (world.rip track.state) (world.named_value track.state instr next))
      track.callers)
  moved track (Strays next) = Some (live next track.inner track.callers)
  moved track (Enters site instr function next) =
      Some
      (live next (begin world function next)
      (record { caller = track.inner; call = track.state } ∷ track.callers))
  moved track (Leaves site instr next) = Some (left track.inner next track.callers)
  moved track (Resumes site instr next) =
      Some (live next (resumed track.inner track.state next) track.callers)
  moved track Passes =
      Some
      (record {
        state = track.state;
        inner = track.inner;
        callers = track.callers;
        status = Passed;
        returned = None;
      })

  -- the track after a list of moves; none where the list is no run
  abbrev pub run : world.Graph → Track world → List Move → Option (Track world)
  run graph track [] = Some track
  run graph track (move ∷ moves) =
      option_and_then (λ later. run graph later moves) (moved track (row graph track move))
