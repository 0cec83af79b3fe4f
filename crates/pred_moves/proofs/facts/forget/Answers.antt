use Rattle.std.proofs.Common.{◌≡◌, true, length, ap, sym, subst, ◌∙◌, List}
use Rattle.std.specs.Prelude.{not}
use Rattle.std.proofs.lemmas.List.{length-map}
use Rattle.sym_terms.specs.Mentions.{mentions}
use Rattle.predicates.specs.declared.bound.Bound.{Bound}
use Rattle.predicates.specs.Bounds.{are_bounds}
use Rattle.predicates.proofs.WeakenLemmas.{bounds_stay}
use Rattle.step_rules.specs.Drop.{term_without}
use Rattle.pred_moves.proofs.facts.forget.Goals as goal

pub invariant_of-p : goal.invariant_of-p
invariant_of-p c =
    let P : List Bound → Type 0 = λ bs. are_bounds bs ≡ true in
    record {
      sixteen = ap length c.forget_terms.ensures ∙ length-map c.p.inside.regs (term_without c.args.s) ∙ c.p.invariant.sixteen;
      bounded = subst P (sym c.forget_bounds.ensures) (bounds_stay (λ b. not (mentions c.args.s b.key)) c.p.inside.bounds c.p.invariant.bounded);
    }
