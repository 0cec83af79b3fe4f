use Rattle.std.proofs.Common.{◌≡◌, true, inl, inr, subst, sym, ◌∙◌, List}
use Rattle.std.specs.List.{All}
use Rattle.lift_graph.specs.Rows.{is_set}
use Rattle.lift_graph.specs.declared.graph.Place.{Place}
use Rattle.lift_graph.proofs.RowLemmas.{items_at_read}
use Rattle.lift_rounds.proofs.ready.is_ready.Goals as goal

pub returns-else-is_marked : goal.returns-else-is_marked
returns-else-is_marked c =
    let same = items_at_read c.args.graph.now.inward.items c.args.vertex c.index.result.now c.requires c.index.ensures in
    let P : List Place → Type 0 = λ ps. All (λ p. is_set c.args.taken.now p.vertex ≡ true) ps in
    let whole = c.as_slice-else-is_marked.ensures.value ∙ sym same in (
      λ t. inr (subst P whole (c.come_from_taken.ensures.0 t)),
      λ r. c.come_from_taken.ensures.1 (elim r as (λ _. P c.as_slice-else-is_marked.result.now) [ inl h ↦ absurd (let e : ⊥ = cc in e) | inr a ↦ subst P (sym whole) a ]),
    )
