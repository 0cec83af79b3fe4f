-- What a track is: a state of a run, with the activations that have begun and not ended.
use Rattle.std.specs.Prelude.{Option, None, List, [], ◌∷◌}
use Rattle.simulation.specs.World.{World}

-- whether a run goes on, has passed an `end` site, or has made its last return
pub data Status : Type 0 where
  Live : Status
  Passed : Status
  Ended : Status

module _ (world : World) where
  -- a function that has begun, the state in which it began, and the values of its symbols
  pub record Activation : Type 0 where
    pub function : world.Function
    pub entry : world.State
    pub valuation : world.Valuation

  -- an activation that waits for its callee, with the state at its call
  pub record Waiting : Type 0 where
    pub caller : Activation
    pub call : world.State

  -- what a return has ended: the activation, and its caller where it had one
  pub record Returned : Type 0 where
    pub ended : Activation
    pub caller : Option Waiting

  -- a state, the innermost activation, those that wait, innermost first, and the last return
  pub record Track : Type 0 where
    pub state : world.State
    -- where the track is ended, the activation that ended last
    pub inner : Activation
    pub callers : List Waiting
    pub status : Status
    -- what the last move ended, where it was a return
    pub returned : Option Returned

  -- the activation of a function that begins in a state
  abbrev pub begin : world.Function → world.State → Activation
  begin function state =
      record { function = function; entry = state; valuation = world.fresh state }

  -- the track that begins with a function in a state
  abbrev pub start : world.Function → world.State → Track
  start function state =
      record {
        state = state;
        inner = begin function state;
        callers = [];
        status = Live;
        returned = None;
      }

  -- the activation that began first
  abbrev pub outermost : Activation → List Waiting → Activation
  outermost inner [] = inner
  outermost inner (waiting ∷ callers) = outermost waiting.caller callers
