-- The laws of order and value, from the lemmas on each operation.
use Rattle.std.proofs.Common.{◌≡◌, ℕ, ◌+◌, ◌-◌, ◌*◌, ◌%◌, ◌^◌, ◌<◌, ◌≤◌, ◌↔◌, true, false, nat_le, if◌then◌else◌, Some, None, refl, sym, ap, ◌∙◌, arith}
use Rattle.std.proofs.lemmas.Bool.Decides.{nat_tests}
use Rattle.std.specs.declared.cmp.Ordering.TheVariants.{Equal}
use Rattle.std.specs.Cmp.{tied_itself}
use Rattle.sym_terms.specs.Plain.{PlainSum, constant_alone}
use Rattle.sym_terms.specs.Limits.{most_nodes}
use Rattle.sym_terms.specs.Nodes.{nodes}
use Rattle.sym_terms.specs.Order.{sum_cmp}
use Rattle.sym_terms.specs.Codes.{sum_same, sum_total}
use Rattle.sym_terms.specs.Value.{Valuation, IsInRange, value}
use Rattle.sym_terms.specs.Normal.{plus, minus, IsNormal, within_node_limit}
use Rattle.term_laws.specs.Laws.{LimitLaws}
use Rattle.sym_terms.specs.Loose.{normal, HasSymbols}
use Rattle.sym_terms.proofs.SumLemmas.{plus_times_normal}
use Rattle.term_laws.proofs.SumValueLemmas.{plus_times_value}
use Rattle.term_laws.proofs.AtomValueLemmas.{value_below, constant_value}
use Rattle.term_laws.proofs.LooseLemmas.{normal_value}

-- terms compare Equal exactly where they are the same
pub equal_same : (a b : PlainSum) → (sum_cmp a b ≡ Equal) ↔ (a ≡ b)
equal_same a b = (sum_same a b, λ e. ap (sum_cmp a) (sym e) ∙ tied_itself sum_total a)

-- within the limit
within_small : (a : PlainSum) → nodes a ≤ most_nodes → within_node_limit a ≡ Some a
unfolding within_node_limit
within_small a h =
    let t : nat_le (nodes a) most_nodes ≡ true = grind (arith, nat_tests) in ap (λ b. if b then Some a else None) t

-- above the limit
within_large : (a : PlainSum) → most_nodes < nodes a → within_node_limit a ≡ None
unfolding within_node_limit
within_large a h =
    let t : nat_le (nodes a) most_nodes ≡ false = grind (arith, nat_tests) in ap (λ b. if b then Some a else None) t

-- what was given is the term, within the limit
within_some : (a b : PlainSum) → within_node_limit a ≡ Some b → (b ≡ a) × (nodes a ≤ most_nodes)
unfolding within_node_limit
within_some a b =
    (elim (nat_le (nodes a) most_nodes) as (λ t. nat_le (nodes a) most_nodes ≡ t → (if t then Some a else None) ≡ Some b → (b ≡ a) × (nodes a ≤ most_nodes)) [
      | true ↦ λ t e. (let f : b ≡ a = cc in f, grind (arith, nat_tests))
      | false ↦ λ t e. absurd (cc)
    ]) refl

-- the laws of the limit
pub limits : LimitLaws
limits = record { small = within_small; large = within_large; some = within_some }

-- less a number is plus its complement
negated : (v w : ℕ) → w < 2 ^ 64 → (v + (2 ^ 64 - 1) * w) % 2 ^ 64 ≡ (v + (2 ^ 64 - w)) % 2 ^ 64
negated v w h = omega arith

module _ (u : Valuation) (range : IsInRange u) where
  -- a sum has the sum of the values
  pub plus_value : (a b : PlainSum) → value u (plus a b) ≡ (value u a + value u b) % 2 ^ 64
  plus_value a b = plus_times_value u a 1 b ∙ ap (λ n. (value u a + n) % 2 ^ 64) (let e : 1 * value u b ≡ value u b = omega arith in e)

  -- a difference has the difference of the values
  pub minus_value : (a b : PlainSum) → value u (minus a b) ≡ (value u a + (2 ^ 64 - value u b)) % 2 ^ 64
  minus_value a b = plus_times_value u a (2 ^ 64 - 1) b ∙ negated (value u a) (value u b) (value_below u range b)

  -- one normal form, one value
  pub one_value : (a b : PlainSum) → HasSymbols a → HasSymbols b → normal a ≡ normal b → value u a ≡ value u b
  one_value a b h i e = sym (normal_value u range a h) ∙ ap (value u) e ∙ normal_value u range b i

  -- a constant difference is the difference of the values
  pub offset_value : (a b : PlainSum) (d : ℕ) → IsNormal a → IsNormal b → constant_alone (minus a b) ≡ Some d → value u a ≡ (value u b + d) % 2 ^ 64
  offset_value a b d na nb e =
      let difference : (value u a + (2 ^ 64 - value u b)) % 2 ^ 64 ≡ d = sym (minus_value a b) ∙ constant_value u range (minus a b) d (plus_times_normal a (2 ^ 64 - 1) b na nb) e in
      let a_below = value_below u range a in
      let b_below = value_below u range b in
      omega arith
