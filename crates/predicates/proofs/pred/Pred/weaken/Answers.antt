use Rattle.std.proofs.Common.{◌≡◌, true, length, ap, sym, subst, ◌∙◌, List}
use Rattle.predicates.specs.declared.bound.Bound.{Bound}
use Rattle.predicates.specs.Bounds.{are_bounds}
use Rattle.predicates.specs.Holding.{holds_bound}
use Rattle.predicates.proofs.WeakenLemmas.{bounds_stay, as_many}
use Rattle.predicates.proofs.pred.Pred.weaken.Goals as goal

pub invariant_of-self : goal.invariant_of-self
invariant_of-self c =
    let P : List Bound → Type 0 = λ bs. are_bounds bs ≡ true in
    record {
      sixteen = ap length c.weaken_registers.ensures ∙ as_many c.as_slice.result.now c.self.inside.regs ∙ c.self.invariant.sixteen;
      bounded = subst P (sym c.weaken_bounds.ensures) (bounds_stay (λ b. holds_bound c.as_slice-2.result.now b) c.self.inside.bounds c.self.invariant.bounded);
    }
