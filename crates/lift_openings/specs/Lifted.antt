-- What holds of what was found of a function, and of what is known at its vertices.
use Rattle.std.specs.Prelude.{◌≡◌, ◌<◌, ◌+◌, ◌^◌, ◌↔◌, ℕ, Bool, true, List, Some, length, slice_get, IfSome}
use Rattle.std.specs.List.{All}
use Rattle.lift_graph.specs.Rows.{is_set}
use Rattle.lift_graph.specs.Graph.{IsGraph, address_at}
use Rattle.lift_graph.specs.Edges.{IsWoven}
use Rattle.lift_graph.specs.Heads.{IsKept}
use Rattle.lift_graph.specs.declared.graph.Key.{Key}
use Rattle.lift_rounds.specs.Meaning.{Meaning}
use Rattle.lift_rounds.specs.Known.{IsHeld, reading, pred_at}
use Rattle.lift_rounds.specs.Settled.{IsLed, IsSettled}
use Rattle.lift_openings.specs.declared.lift.Lift.{Lift}

-- the key of an entry vertex
abbrev pub entry_key : ℕ → Key
entry_key address = record { address = address; tag = 0 }

-- rounds can begin: the edges of each vertex lead to the keys of its cases
pub record IsFound {P R : Type 0} (m : Meaning R) (has : P → Type 0) (read : P → R) (l : Lift P) : Type 0 where
  pub graph : IsGraph l.graph
  pub rows : length l.made.items ≡ length l.graph.keys.items
  pub held : All (λ x. IsHeld has x) l.made.items
  pub led : IsLed m l.graph (reading read l.made.items)

-- the entry vertex stands at the address, and that is known there
pub record IsBegun {P R : Type 0} (read : P → R) (l : Lift P) (address : ℕ) (start : R) : Type 0 where
  pub key : slice_get l.graph.keys.items 0 ≡ Some (entry_key address)
  pub pred : pred_at (reading read l.made.items) 0 ≡ Some start

-- a round changed nothing
pub record IsLifted {P R : Type 0} (m : Meaning R) (has : P → Type 0) (read : P → R) (l : Lift P) : Type 0 where
  pub found : IsFound m has read l
  pub settled : (order : List ℕ) × IsWoven l.graph order × IsSettled m l.graph order (reading read l.made.items)
  -- the vertices that aren't the merge of their cases are the loop heads and those at the entry's address
  pub kept : (v : ℕ) → v < length l.graph.keys.items → (is_set l.graph.keeps.items v ≡ true) ↔ IsKept l.graph.keys.items l.graph.inward.items v

-- every vertex at an address of which something is known tells where the jump there goes
abbrev pub IsResolved : {P R : Type 0} → (R → Bool) → (P → R) → Lift P → ℕ → Type 0
IsResolved tells read l address =
    (v : ℕ) → v < length l.graph.keys.items → address_at l.graph.keys.items v ≡ address → IfSome (pred_at (reading read l.made.items) v) (λ p. tells p ≡ true)

-- one more jump is open, and their number fits 64 bits
abbrev pub IsOneMore : List ℕ → List ℕ → Type 0
IsOneMore old new = (length new ≡ length old + 1) × (length new < 2 ^ 64)
