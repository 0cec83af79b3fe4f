-- What makes one known term, flag fact or bound say another.
use Rattle.std.specs.Prelude.{ℕ, Bool, true, false, ◌&&◌, ◌==◌, nat_le, Option, Some, None, List}
use Rattle.std.specs.List.{list_all, list_any}
use Rattle.bits_core.specs.Width.{bits_of}
pub use Rattle.mem_forest.specs.Holders.{same_term, holds_term}
use Rattle.predicates.specs.declared.bound.FlagFact.{FlagFact}
use Rattle.predicates.specs.declared.bound.Values.{Values}
use Rattle.predicates.specs.declared.bound.Values.TheVariants.{Range, OneOf}
use Rattle.predicates.specs.declared.bound.Bound.{Bound}

-- whether two flag facts are the same
abbrev pub same_fact : FlagFact → FlagFact → Bool
same_fact f g = (bits_of f.width == bits_of g.width) && (same_term f.left g.left && same_term f.right g.right)

-- whether the second, where it is known, is the same flag fact as the first
abbrev pub holds_flags : Option FlagFact → Option FlagFact → Bool
holds_flags held None = true
holds_flags None (Some wanted) = false
holds_flags (Some held) (Some wanted) = same_fact held wanted

-- whether a number is in a list
abbrev pub is_among : ℕ → List ℕ → Bool
is_among number numbers = list_any (λ n. n == number) numbers

-- whether each of the first values is one of the second; a range is taken for no list
abbrev pub are_within : Values → Values → Bool
are_within (Range low high) (Range least most) = nat_le least low && nat_le high most
are_within (Range low high) (OneOf numbers) = false
are_within (OneOf numbers) (Range least most) = list_all (λ n. nat_le least n && nat_le n most) numbers
are_within (OneOf numbers) (OneOf others) = list_all (λ n. is_among n others) numbers

-- whether one of the bounds has the same key and values within those of another bound
abbrev pub holds_bound : List Bound → Bound → Bool
holds_bound held wanted = list_any (λ h. same_term h.key wanted.key && are_within h.set wanted.set) held
