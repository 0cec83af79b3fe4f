use Rattle.std.proofs.Common.{sym, ap, ◌∙◌}
use Rattle.std.specs.List.{list_any}
use Rattle.sym_terms.specs.Mentions.{mentions}
use Rattle.step_values.proofs.BoundLemmas.{filter_same}
use Rattle.step_values.proofs.bounds.Bounds.forget.Goals as goal

pub returns-else-is_any_key : goal.returns-else-is_any_key
returns-else-is_any_key c =
    filter_same c.args.s c.args.self.now
    (ap (list_any (λ b. mentions c.args.s b.key)) (sym c.as_slice.ensures.value) ∙ sym c.is_any_key.ensures ∙ c.if-is_any_key.false)
