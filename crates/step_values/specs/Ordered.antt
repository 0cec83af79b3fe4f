-- What is asked of bounds: that ranges have their ends in order.
use Rattle.std.specs.Prelude.{Bool, true, nat_le, List}
use Rattle.std.specs.List.{list_all}
use Rattle.predicates.specs.declared.bound.Values.{Values}
use Rattle.predicates.specs.declared.bound.Values.TheVariants.{Range, OneOf}
use Rattle.predicates.specs.declared.bound.Bound.{Bound}

-- whether the low end of a range is at most the high end
abbrev pub is_ordered : Values → Bool
is_ordered (Range low high) = nat_le low high
is_ordered (OneOf numbers) = true

-- whether each range of the bounds is so
abbrev pub are_ordered : List Bound → Bool
are_ordered bounds = list_all (λ b. is_ordered b.set) bounds
