-- What a safe track is: it stands in a vertex that holds, and its last return went well.
use Rattle.std.specs.Prelude.{◌≡◌, ◌+◌, ◌%◌, ◌^◌, Option, Some, None, Any}
use Rattle.std.specs.Option.{IsSomeAnd}
use Rattle.simulation.specs.Registers as register
use Rattle.simulation.specs.World.{World}
use Rattle.simulation.specs.Graph.{site_at}
use Rattle.simulation.specs.Track.{Activation, Waiting, Returned, Track}
use Rattle.simulation.specs.Track.{Status, Live, Passed, Ended}
use Rattle.simulation.specs.Keeps.{Saved, BackFromCall}

-- the fact holds if the status is Live
abbrev pub WhileLive : Status → Type 0 → Type 0
WhileLive Live Fact = Fact
WhileLive Passed Fact = Unit {0}
WhileLive Ended Fact = Unit {0}

module _ (world : World) where
  -- some vertex of the activation's function at the state's address holds of the state
  abbrev pub InVertex : Activation world → world.State → Type 0
  InVertex activation state =
      IsSomeAnd (site_at world activation.function (world.rip state))
      (λ site.
      Any (λ vertex. world.Sat (world.pred vertex) state activation.valuation)
      (world.vertices site))

  -- the state is the caller's after its call: the next address, and what a call leaves as it was
  pub record ToCaller (call state : world.State) : Type 0 where
    pub rip :
        IsSomeAnd (world.instr_at (world.rip call))
        (λ instr. world.rip state ≡ world.next_address (world.rip call) instr)
    pub back : BackFromCall world call state

  -- where an ended activation's return leads: to its caller, or to its return address
  abbrev pub GoesTo : Activation world → world.State → Option (Waiting world) → Type 0
  GoesTo ended state None = world.rip state ≡ world.return_address ended.valuation
  GoesTo ended state (Some waiting) = ToCaller waiting.call state

  -- the return that led to the state gave back what was there at the ended activation's entry
  pub record ReturnsWell (returned : Returned world) (state : world.State) : Type 0 where
    pub rsp :
        world.reg state register.rsp ≡ (world.reg returned.ended.entry register.rsp + 8) % 2 ^ 64
    pub saved : Saved world returned.ended.entry state
    pub goes : GoesTo returned.ended state returned.caller

  -- if the last move was a return, it went well
  abbrev pub LastReturn : Option (Returned world) → world.State → Type 0
  LastReturn None state = Unit {0}
  LastReturn (Some returned) state = ReturnsWell returned state

  -- a live track stands in a vertex that holds, and a last return went well
  pub record Safe (track : Track world) : Type 0 where
    pub vertex : WhileLive track.status (InVertex track.inner track.state)
    pub returned : LastReturn track.returned track.state
