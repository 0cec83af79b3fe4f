-- What stands for a predicate: the logic keeps it so.
use Rattle.std.specs.Prelude.{◌≡◌, ◌⊎◌, ℕ, zero, suc, List, Option}
use mathlib.Core.Logic.{inl, inr}
use Rattle.std.specs.Coded.{Coded, coded_list, coded_ℕ, coded_option, coded×, coded⊎, code_by}
use Rattle.std.proofs.Common.{refl}
use Rattle.bits_core.specs.declared.width.Width.{Width}
use Rattle.bits_core.specs.declared.width.Width.TheVariants.{W8, W16, W32, W64}
use Rattle.sym_terms.specs.Plain.{PlainSum}
use Rattle.sym_terms.specs.Codes.{coded_sum}
use Rattle.mem_forest.specs.Plain.{PlainForest}
use Rattle.mem_forest.specs.Codes.{coded_cells}
use Rattle.predicates.specs.declared.bound.FlagFact.{FlagFact}
use Rattle.predicates.specs.declared.bound.Values.{Values}
use Rattle.predicates.specs.declared.bound.Values.TheVariants.{Range, OneOf}
use Rattle.predicates.specs.declared.bound.Bound.{Bound}
use Rattle.predicates.specs.Predicate.{Predicate}

-- the number of a width
abbrev pub width_number : Width → ℕ
width_number W8 = 0
width_number W16 = 1
width_number W32 = 2
width_number W64 = 3

-- the width of a number
abbrev pub numbered_width : ℕ → Width
numbered_width zero = W8
numbered_width (suc zero) = W16
numbered_width (suc (suc zero)) = W32
numbered_width (suc (suc (suc n))) = W64

-- its number gives the width back
abbrev pub width_again : (w : Width) → numbered_width (width_number w) ≡ w
width_again W8 = refl
width_again W16 = refl
width_again W32 = refl
width_again W64 = refl

-- how the logic keeps a flag fact
abbrev pub coded_flag_fact : Coded FlagFact
coded_flag_fact =
    code_by (ℕ × (PlainSum × PlainSum)) (coded× coded_ℕ (coded× coded_sum coded_sum))
    (λ f. (width_number f.width, (f.left, f.right)))
    (λ p. record { width = numbered_width p.0; left = p.1.0; right = p.1.1 })
    (λ f i. record { width = width_again f.width i; left = f.left; right = f.right })

-- a range is its two ends, a list its numbers
abbrev pub ends_or_list : Values → (ℕ × ℕ) ⊎ List ℕ
ends_or_list (Range low high) = inl (low, high)
ends_or_list (OneOf numbers) = inr numbers

-- the values of two ends or of a list
abbrev pub values_of : (ℕ × ℕ) ⊎ List ℕ → Values
values_of (inl p) = Range p.0 p.1
values_of (inr numbers) = OneOf numbers

-- their parts give the values back
abbrev pub values_again : (v : Values) → values_of (ends_or_list v) ≡ v
values_again (Range low high) = refl
values_again (OneOf numbers) = refl

-- how the logic keeps a bound
abbrev pub coded_bound : Coded Bound
coded_bound =
    code_by (PlainSum × ((ℕ × ℕ) ⊎ List ℕ)) (coded× coded_sum (coded⊎ (coded× coded_ℕ coded_ℕ) (coded_list coded_ℕ)))
    (λ b. (b.key, ends_or_list b.set))
    (λ p. record { key = p.0; set = values_of p.1 })
    (λ b i. record { key = b.key; set = values_again b.set i })

-- how the logic keeps a predicate
abbrev pub coded_predicate : Coded Predicate
coded_predicate =
    code_by (List (Option PlainSum) × (Option FlagFact × (List Bound × PlainForest)))
    (coded× (coded_list (coded_option coded_sum)) (coded× (coded_option coded_flag_fact) (coded× (coded_list coded_bound) coded_cells)))
    (λ p. (p.regs, (p.flags, (p.bounds, p.forest))))
    (λ q. record { regs = q.0; flags = q.1.0; bounds = q.1.1.0; forest = q.1.1.1 })
    (λ p. refl)
