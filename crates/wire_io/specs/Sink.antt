-- A stream to write to: how its bytes grow, and what a stall shows of its room.
use Rattle.std.specs.Prelude.{◌≡◌, ◌⊎◌, ℕ, ◌≤◌, List, length, Some}
use Rattle.std.specs.Io.KnownBytes.{append_known}
use Rattle.std.specs.declared.option.Option.{Option}

-- what is told of the stream has grown by these bytes
abbrev pub Grows : Option (List ℕ) → Option (List ℕ) → List ℕ → Type 0
Grows old new bytes = new ≡ append_known old bytes

-- the stream holds all that it ever may, where both are told
abbrev pub IsFull : Option ℕ → Option (List ℕ) → Type 0
IsFull room written =
    (most : ℕ) (bytes : List ℕ) → room ≡ Some most → written ≡ Some bytes → most ≤ length bytes

-- The room stays as it is, and a stall that was counted shows that none is left.
pub record KeepsRoom (room later : Option ℕ) (stalls now : ℕ) (written : Option (List ℕ)) : Type 0 where
  pub same : later ≡ room
  pub stall : (now ≡ stalls) ⊎ IsFull later written
