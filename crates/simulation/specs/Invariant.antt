-- What holds of a track at each moment, beside Safe: how its activations hang together.
use Rattle.std.specs.Prelude.{◌≡◌, ℕ, Some, List, [], ◌∷◌, Any}
use Rattle.simulation.specs.World.{World, Rules, Call}
use Rattle.simulation.specs.Graph.{site_at}
use Rattle.simulation.specs.Valid.{FunctionHolds, HasForms}
use Rattle.simulation.specs.Track.{Activation, Waiting, Track}
use Rattle.simulation.specs.Keeps.{Apart}
use Rattle.simulation.specs.Safe.{WhileLive, Safe}

module _ (world : World) (checks : Rules world) (graph : world.Graph) where
  -- the activation's function keeps the rules, and its valuation has the symbols of its entry
  pub record IsLawful (activation : Activation world) : Type 0 where
    pub rules : FunctionHolds world checks graph activation.function
    pub forms : HasForms world checks activation.function
    pub began : checks.Began activation.valuation activation.entry

  -- a caller waits at a `call` site for the callee that began in the entry state
  pub record Waits (waiting : Waiting world) (entry : world.State) : Type 0 where
    pub lawful : IsLawful waiting.caller
    pub site : world.Site
    pub target : ℕ
    pub instr : world.Instr
    pub choice : ℕ
    -- the site, its kind and its instruction; the callee began in the state after it
    pub found : site_at world waiting.caller.function (world.rip waiting.call) ≡ Some site
    pub kind : world.kind site ≡ Call target
    pub at : world.instr_at (world.rip waiting.call) ≡ Some instr
    pub next : world.next waiting.call instr choice ≡ Some entry
    -- what held and was assumed at the call
    pub state : world.IsState waiting.call
    pub loaded : world.Loaded (world.memory waiting.call)
    pub pairs : Apart world (world.seps site) waiting.caller.valuation
    pub vertex :
        Any (λ vertex. world.Sat (world.pred vertex) waiting.call waiting.caller.valuation)
        (world.vertices site)

  -- each caller waits for the activation above it, from the innermost entry state outwards
  abbrev pub Chain : world.State → List (Waiting world) → Type 0
  Chain entry [] = Unit {0}
  Chain entry (waiting ∷ callers) = Waits waiting entry × Chain waiting.caller.entry callers

  -- what holds of a live track
  pub record IsAlive (track : Track world) : Type 0 where
    pub state : world.IsState track.state
    pub lawful : IsLawful track.inner
    pub chain : Chain track.inner.entry track.callers

  -- the invariant: the track is safe, and while it is live it can go on
  pub record Invariant (track : Track world) : Type 0 where
    pub safe : Safe world track
    pub alive : WhileLive track.status (IsAlive track)
