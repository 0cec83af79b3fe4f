-- What is weakened has no other numbers.
use Rattle.std.proofs.Common.{◌≡◌, ◌<◌, ℕ, Bool, true, false, cond, List, [], ◌∷◌, Option, Some, None, filter, length}
use Rattle.std.specs.Prelude.{All, IfSome, if◌then◌else◌}
use Rattle.std.proofs.lemmas.List.Elements.{All-cons, All-nil, All-head, All-tail}
use Rattle.bits_core.specs.declared.width.Width.{Width}
use Rattle.predicates.specs.declared.bound.Values.{Values}
use Rattle.bank_values.specs.Numbered.{NumberForest, empty, spot, level}
use Rattle.bank_values.specs.ReadBack.{IsKnownBelow, AreBelow, IsBelow}
use Rattle.bank_values.specs.Weaken.{holds_number, weaker_numbers, holds_fact, weaker_fact, holds_limit, number_holder, weaker_forest}
use Rattle.bank_values.specs.declared.pred.BankPred.{BankPred}

chosen_below : (n : ℕ) (b : Bool) (t : Option ℕ) → IsKnownBelow n t → IsKnownBelow n (if b then t else None)
chosen_below n true t h = h
chosen_below n false t h = tt

numbers_below : (n : ℕ) (hs ts : List (Option ℕ)) → All (IsKnownBelow n) ts → All (IsKnownBelow n) (weaker_numbers hs ts)
numbers_below n hs [] h = All-nil (IsKnownBelow n)
numbers_below n [] (t ∷ ts) h = All-cons (IsKnownBelow n) None (weaker_numbers [] ts) tt (numbers_below n [] ts (All-tail (IsKnownBelow n) t ts h))
numbers_below n (k ∷ ks) (t ∷ ts) h =
    All-cons (IsKnownBelow n) (if holds_number k t then t else None) (weaker_numbers ks ts)
    (chosen_below n (holds_number k t) t (All-head (IsKnownBelow n) t ts h))
    (numbers_below n ks ts (All-tail (IsKnownBelow n) t ts h))

fact_below : (n : ℕ) (b : Bool) (f : Option (Width × ℕ × ℕ)) → IfSome f (λ f. (f.1 < n) × (f.2 < n)) → IfSome (if b then f else None) (λ f. (f.1 < n) × (f.2 < n))
fact_below n true f h = h
fact_below n false f h = tt

bounds_below : (n : ℕ) (p : ℕ × Values → Bool) (bs : List (ℕ × Values)) → All (λ b. b.0 < n) bs → All (λ b. b.0 < n) (filter p bs)
bounds_below n p [] h = All-nil (λ b. b.0 < n)
bounds_below n p (b ∷ bs) h =
    let rest = bounds_below n p bs (All-tail (λ b. b.0 < n) b bs h) in
    elim (p b) as (λ t. All (λ b. b.0 < n) (cond t (b ∷ filter p bs) (filter p bs))) [
      | true ↦ All-cons (λ b. b.0 < n) b (filter p bs) (All-head (λ b. b.0 < n) b bs h) rest
      | false ↦ rest
    ]

forest_below : (n : ℕ) (held f : NumberForest) → AreBelow n f → AreBelow n (weaker_forest held f)
forest_below n held empty h = h
forest_below n held (spot ns b v under rest) h =
    elim (number_holder held ns b v) as (λ o. AreBelow n (elim o as (λ o. NumberForest) [ Some c ↦ spot ns b v (weaker_forest c.under under) (weaker_forest held rest) | None ↦ weaker_forest held rest ])) [
      | Some c ↦ (h.0, (forest_below n c.under under h.1.0, forest_below n held rest h.1.1))
      | None ↦ forest_below n held rest h.1.1
    ]

-- a predicate of what is left has no other numbers
pub left_below : (n : ℕ) (p q after : BankPred) → IsBelow n p
    → after.regs.items ≡ weaker_numbers q.regs.items p.regs.items → after.flags ≡ weaker_fact q.flags p.flags
    → after.bounds.items ≡ filter (holds_limit q.bounds.items) p.bounds.items → level after.nodes.items ≡ weaker_forest (level q.nodes.items) (level p.nodes.items)
    → IsBelow n after
left_below n p q after h regs flags bounds nodes = record {
  regs = rw regs (numbers_below n q.regs.items p.regs.items h.regs);
  flags = rw flags (fact_below n (holds_fact q.flags p.flags) p.flags h.flags);
  bounds = rw bounds (bounds_below n (holds_limit q.bounds.items) p.bounds.items h.bounds);
  nodes = rw nodes (forest_below n (level q.nodes.items) (level p.nodes.items) h.nodes);
}
