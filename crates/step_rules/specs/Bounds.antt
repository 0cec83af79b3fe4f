-- What a condition says of a term that was compared with a number, and where that goes among the bounds.
use Rattle.std.specs.Prelude.{ℕ, ◌+◌, ◌-◌, ◌%◌, ◌^◌, Bool, ◌&&◌, ◌||◌, ◌==◌, if◌then◌else◌, nat_lt, nat_le, Option, Some, None, List, [], ◌∷◌, length, max, min}
use Rattle.std.specs.declared.cmp.Ordering.TheVariants.{Less, Equal, Greater}
use Rattle.bits_core.specs.Width.{bits_of}
use Rattle.bits_core.specs.LowBits.{cut_of}
use Rattle.sym_terms.specs.Plain.{PlainSum, constant_alone}
use Rattle.sym_terms.specs.Order.{sum_cmp}
use Rattle.predicates.specs.declared.bound.FlagFact.{FlagFact}
use Rattle.predicates.specs.declared.bound.Values.{Values}
use Rattle.predicates.specs.declared.bound.Values.TheVariants.{Range, OneOf}
use Rattle.predicates.specs.declared.bound.Bound.{Bound}
use Rattle.predicates.specs.Predicate.{Predicate}
use Rattle.step_rules.specs.Terms.{cut_term}

-- ---- the values that a condition leaves

-- the range from low to high, where it isn't empty and leaves something of 0 to m out
abbrev pub telling : ℕ → ℕ → ℕ → Option Values
telling m low high =
    if nat_lt high low || ((low == 0) && nat_le m high) then None else Some (Range low high)

-- the numbers of 0 to m other than r, where they are a range
abbrev pub range_without : ℕ → ℕ → Option Values
range_without r m = if r == 0 then telling m 1 m else if r == m then telling m 0 (m - 1) else None

-- the numbers of 0 to m for which condition b, ae, e, ne, be or a (2 to 7) holds against r; None where they are no range
-- or all of 0 to m, and for every other condition
abbrev pub range_of : ℕ → ℕ → ℕ → Option Values
range_of cc r m =
    if cc == 2 then (if r == 0 then None else telling m 0 (r - 1))
    else if cc == 3 then telling m r m
    else if cc == 4 then telling m r r
    else if cc == 5 then range_without r m
    else if cc == 6 then telling m 0 r
    else if cc == 7 then telling m (r + 1) m
    else None

-- ---- one more bound

-- the values of a key that has old ones: the intersection of two ranges, unless it is empty; a list stays, and a newer
-- list (which comes with a key of its own) would take the range's place
abbrev pub met : Values → Values → Values
met (Range low high) (Range least most) =
    if nat_le (max low least) (min high most) then Range (max low least) (min high most) else Range low high
met (Range low high) (OneOf numbers) = OneOf numbers
met (OneOf numbers) new = OneOf numbers

-- a bound in its place among those with ascending keys; a new key only where there is room
abbrev pub inserted : Bool → PlainSum → Values → List Bound → List Bound
inserted room key set [] = if room then record { key = key; set = set } ∷ [] else []
inserted room key set (b ∷ bs) = elim (sum_cmp key b.key) as (λ o. List Bound) [
  | Less ↦ if room then record { key = key; set = set } ∷ b ∷ bs else b ∷ bs
  | Equal ↦ record { key = b.key; set = met b.set set } ∷ bs
  | Greater ↦ b ∷ inserted room key set bs
]

-- the bounds with one more; where 16 stand, a new key is not added
unfoldable pub with_bound : PlainSum → Values → List Bound → List Bound
with_bound key set bounds = inserted (nat_lt (length bounds) 16) key set bounds

-- the same, where both the key and its values are known
abbrev pub with_bound_if : Option PlainSum → Option Values → List Bound → List Bound
with_bound_if None set bounds = bounds
with_bound_if (Some key) None bounds = bounds
with_bound_if (Some key) (Some set) bounds = with_bound key set bounds

-- ---- a condition that holds

-- the bounds after a condition of a comparison, with both sides as constants where they are: only a constant right side
-- and a left side that isn't one tell something
abbrev pub by_comparison : ℕ → FlagFact → Option ℕ → Option ℕ → List Bound → List Bound
by_comparison cc f (Some l) right bounds = bounds
by_comparison cc f None None bounds = bounds
by_comparison cc f None (Some r) bounds =
    with_bound_if (cut_term f.width (Some f.left))
    (range_of cc (cut_of f.width r) (2 ^ bits_of f.width - 1)) bounds

-- the bounds after a condition, by what is known of the flags
abbrev pub by_fact : ℕ → Option FlagFact → List Bound → List Bound
by_fact cc None bounds = bounds
by_fact cc (Some f) bounds = by_comparison cc f (constant_alone f.left) (constant_alone f.right) bounds

-- the predicate where a condition holds
unfoldable pub where_holds : ℕ → Predicate → Predicate
where_holds cc p = record p { bounds = by_fact cc p.flags p.bounds }

-- the opposite of a condition: the other number of its pair
abbrev pub opposite_of : ℕ → ℕ
opposite_of cc = if cc % 2 == 1 then cc - 1 else cc + 1
