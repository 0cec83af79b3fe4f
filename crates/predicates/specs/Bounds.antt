-- What makes bounds those of a predicate: their number, their order, and the form of their values.
use Rattle.std.specs.Prelude.{ℕ, Bool, true, ◌&&◌, nat_le, nat_lt, List, [], ◌∷◌, length}
use Rattle.std.specs.Ordering.{is_lt}
use Rattle.std.specs.List.{list_all}
use Rattle.sym_terms.specs.Order.{sum_cmp}
use Rattle.predicates.specs.Limits.{most_bounds, most_numbers}
use Rattle.predicates.specs.declared.bound.Values.{Values}
use Rattle.predicates.specs.declared.bound.Values.TheVariants.{Range, OneOf}
use Rattle.predicates.specs.declared.bound.Bound.{Bound}

-- whether each item stands before the next
abbrev pub in_order : {A : Type 0} → (A → A → Bool) → List A → Bool
in_order before [] = true
in_order before (x ∷ []) = true
in_order before (x ∷ y ∷ ys) = before x y && in_order before (y ∷ ys)

-- whether numbers ascend
abbrev pub numbers_ascend : List ℕ → Bool
numbers_ascend numbers = in_order nat_lt numbers

-- whether a low end isn't over the high end, and a list ascends
abbrev pub values_ascend : Values → Bool
values_ascend (Range low high) = nat_le low high
values_ascend (OneOf numbers) = numbers_ascend numbers

-- whether there are numbers, ascending, and no more than a list may have
abbrev pub is_list : List ℕ → Bool
is_list numbers = nat_le 1 (length numbers) && (nat_le (length numbers) most_numbers && numbers_ascend numbers)

-- whether a range has its ends in order, and a list is in form
abbrev pub are_values : Values → Bool
are_values (Range low high) = nat_le low high
are_values (OneOf numbers) = is_list numbers

-- whether each bound has its values in form
abbrev pub are_formed : List Bound → Bool
are_formed bounds = list_all (λ bound. are_values bound.set) bounds

-- whether the key of one bound is before another's
abbrev pub key_before : Bound → Bound → Bool
key_before bound other = is_lt (sum_cmp bound.key other.key)

-- whether keys ascend
abbrev pub keys_ascend : List Bound → Bool
keys_ascend bounds = in_order key_before bounds

-- whether these are the bounds of a predicate: no more than it may have, with ascending keys and values in form
abbrev pub are_bounds : List Bound → Bool
are_bounds bounds = nat_le (length bounds) most_bounds && (keys_ascend bounds && are_formed bounds)
