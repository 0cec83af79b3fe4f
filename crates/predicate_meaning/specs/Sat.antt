-- When a predicate is true of a state, under the values of its symbols.
use Rattle.std.specs.Prelude.{◌≡◌, ℕ, ◌≤◌, Option, None, slice_index_or, IfSome, All}
use Rattle.std.specs.List.{Contains}
use Rattle.bits_core.specs.declared.flags.Flags.{Flags}
use Rattle.bits_core.specs.Arithmetic.{compared}
use Rattle.sym_terms.specs.Plain.{PlainSum}
use Rattle.sym_terms.specs.Value.{Valuation, IsInRange, value}
use Rattle.sym_terms.specs.Normal.{IsNormal}
use Rattle.predicates.specs.declared.bound.FlagFact.{FlagFact}
use Rattle.predicates.specs.declared.bound.Values.{Values}
use Rattle.predicates.specs.declared.bound.Values.TheVariants.{Range, OneOf}
use Rattle.predicates.specs.declared.bound.Bound.{Bound}
use Rattle.predicates.specs.Predicate.{Predicate}
use Rattle.x86_machine.specs.State.{State, reg}
use Rattle.forest_meaning.specs.Holds.{Tells, Holds}

-- the term of a register; None where it is not known
unfoldable pub register : Predicate → ℕ → Option PlainSum
register p r = slice_index_or p.regs r None

-- the flags are those of left minus right
pub record FactHolds (flags : Flags) (u : Valuation) (f : FlagFact) : Type 0 where
  pub left : IsNormal f.left
  pub right : IsNormal f.right
  pub same : flags ≡ compared f.width (value u f.left) (value u f.right)

-- a number is one of the values
abbrev pub IsIn : Values → ℕ → Type 0
IsIn (Range low high) n = (low ≤ n) × (n ≤ high)
IsIn (OneOf numbers) n = Contains numbers n

-- the key of a bound has one of its values
pub record BoundHolds (u : Valuation) (b : Bound) : Type 0 where
  pub key : IsNormal b.key
  pub within : IsIn b.set (value u b.key)

-- a predicate is true: what is known of registers and flags, each bound, and the forest
pub record Sat (p : Predicate) (s : State) (u : Valuation) : Type 0 where
  pub range : IsInRange u
  pub fs_base : s.fs_base ≡ u.fs
  pub registers : (r : ℕ) → Tells u (register p r) (reg s r)
  pub flags : IfSome p.flags (λ f. FactHolds s.flags u f)
  pub bounds : All (λ b. BoundHolds u b) p.bounds
  pub forest : Holds s.memory u p.forest
