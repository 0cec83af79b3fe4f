-- What a run assumes: that it keeps what its graph prints, at each moment and with each move.
use Rattle.std.specs.Prelude.{◌≡◌, ℕ, List, [], ◌∷◌, ◌≢◌, ◌<◌, All, IfSome}
use Rattle.std.specs.Option.{IsSomeAnd}
use Rattle.simulation.specs.Registers as register
use Rattle.simulation.specs.World.{World, Class, Ordinary, Calling, System, Returning, Stopping}
use Rattle.simulation.specs.Graph.{site_at}
use Rattle.simulation.specs.Track as track
use Rattle.simulation.specs.Track.{Waiting, Track}
use Rattle.simulation.specs.Moves.{Row, NoRun, Steps, Strays, Enters, Leaves, Resumes, Passes}
use Rattle.simulation.specs.Moves.{Move, renamed, moved, row}

module _ (world : World) where
  -- the six saved registers and the FS base are as before (System V x86-64 psABI, 3.2.1)
  pub record Saved (old new : world.State) : Type 0 where
    pub rbx : world.reg new register.rbx ≡ world.reg old register.rbx
    pub rbp : world.reg new register.rbp ≡ world.reg old register.rbp
    pub r12 : world.reg new register.r12 ≡ world.reg old register.r12
    pub r13 : world.reg new register.r13 ≡ world.reg old register.r13
    pub r14 : world.reg new register.r14 ≡ world.reg old register.r14
    pub r15 : world.reg new register.r15 ≡ world.reg old register.r15
    pub fs : world.fs new ≡ world.fs old

  -- after a call: the stack pointer and what is saved are as before it
  pub record BackFromCall (old new : world.State) : Type 0 where
    pub rsp : world.reg new register.rsp ≡ world.reg old register.rsp
    pub saved : Saved old new

  -- after a syscall: all registers but rax, rcx and r11 and the FS base are as before it
  pub record BackFromSyscall (old new : world.State) : Type 0 where
    pub reg :
        (number : ℕ) → number < 16 → number ≢ register.rax → number ≢ register.rcx →
        number ≢ register.r11 → world.reg new number ≡ world.reg old number
    pub fs : world.fs new ≡ world.fs old

  -- what an outside move leaves as it was, by the class of the instruction
  abbrev pub BackFrom : Class → world.State → world.State → Type 0
  BackFrom Calling old new = BackFromCall old new
  BackFrom System old new = BackFromSyscall old new
  BackFrom Ordinary old new = Unit {0}
  BackFrom Returning old new = Unit {0}
  BackFrom Stopping old new = Unit {0}

  -- each pair is separate
  abbrev pub Apart : List (world.Region × world.Region) → world.Valuation → Type 0
  Apart pairs valuation = All (λ pair. world.Separate pair.0 pair.1 valuation) pairs

  -- each region has the same bytes in both memories
  abbrev pub Kept : List world.Region → world.Valuation → world.Memory → world.Memory → Type 0
  Kept regions valuation old new = All (λ region. world.SameBytes region valuation old new) regions

  -- what an outside move keeps: the calling convention, and the regions that the site prints
  pub record OutsideKeeps
      (track : Track world) (site : world.Site) (instr : world.Instr) (next : world.State) :
      Type 0 where
    pub pairs : Apart (world.seps site) track.inner.valuation
    pub state : world.IsState next
    pub rip : world.rip next ≡ world.next_address (world.rip track.state) instr
    pub back : BackFrom (world.class_of instr) track.state next
    pub regions :
        Kept (world.keeps site) track.inner.valuation (world.pushed track.state instr)
        (world.memory next)

  -- the regions of the caller's call site are as when the callee began in this state
  abbrev pub CallerKeeps : world.State → world.State → List (Waiting world) → Type 0
  CallerKeeps entry next [] = Unit {0}
  CallerKeeps entry next (waiting ∷ callers) =
      IfSome (site_at world waiting.caller.function (world.rip waiting.call))
      (λ site.
      Kept (world.keeps site) waiting.caller.valuation (world.memory entry) (world.memory next))

  -- what is assumed at a return, of the track before it and the state after it
  abbrev pub AtReturn : Type 1
  AtReturn = Track world → world.State → Type 0

  -- the assumption at a return that a graph prints
  abbrev pub ReturnKeeps : AtReturn
  ReturnKeeps track next = CallerKeeps track.inner.entry next track.callers

  -- what a move keeps, with the given assumption at returns
  abbrev pub RowKeepsBy : AtReturn → Track world → Row world → Type 0
  RowKeepsBy at_return track NoRun = ⊥
  RowKeepsBy at_return track (Steps site instr next) =
      Apart (world.seps site)
      (renamed world track.inner.valuation (world.rip track.state)
      (world.named_value track.state instr next))
  RowKeepsBy at_return track (Strays next) = Unit {0}
  RowKeepsBy at_return track (Enters site instr function next) =
      Apart (world.seps site) track.inner.valuation
  RowKeepsBy at_return track (Leaves site instr next) = at_return track next
  RowKeepsBy at_return track (Resumes site instr next) = OutsideKeeps track site instr next
  RowKeepsBy at_return track Passes = Unit {0}

  -- what a move keeps
  abbrev pub RowKeeps : Track world → Row world → Type 0
  RowKeeps = RowKeepsBy ReturnKeeps

  -- at the activation's entry its frame lay outside the image
  abbrev pub IsFramed : track.Activation world → Type 0
  IsFramed activation =
      world.Framed (world.below activation.function) (world.above activation.function)
      activation.entry

  -- what a track keeps at each moment: the image's bytes, and the frame of each activation
  pub record MomentKeeps (track : Track world) : Type 0 where
    pub loaded : world.Loaded (world.memory track.state)
    pub inner : IsFramed track.inner
    pub callers : All (λ waiting. IsFramed waiting.caller) track.callers

  -- the moves are a run from the track and keep all this to its end, with the assumption at returns
  abbrev pub KeepsBy : AtReturn → world.Graph → Track world → List (Move world) → Type 0
  KeepsBy at_return graph track [] = MomentKeeps track
  KeepsBy at_return graph track (move ∷ moves) =
      MomentKeeps track × RowKeepsBy at_return track (row world graph track move) ×
      IsSomeAnd (moved world track (row world graph track move))
      (λ later. KeepsBy at_return graph later moves)

  -- the moves are a run from the track and keep what the graph prints
  abbrev pub Keeps : world.Graph → Track world → List (Move world) → Type 0
  Keeps = KeepsBy ReturnKeeps
