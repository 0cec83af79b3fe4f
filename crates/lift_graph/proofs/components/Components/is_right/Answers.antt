use Rattle.std.proofs.Common.{◌≤◌, ℕ, List, sym, ◌∙◌, subst}
use Rattle.std.specs.List.{All}
use Rattle.lift_graph.specs.Components.{part_of}
use Rattle.lift_graph.specs.declared.graph.Place.{Place}
use Rattle.lift_graph.proofs.RowLemmas.{items_at_read}
use Rattle.lift_graph.proofs.components.Components.is_right.Goals as goal

pub returns-then-is_root-clause-falls : goal.returns-then-is_root-clause-falls
returns-then-is_root-clause-falls c = λ _.
    let self = c.args.self.now in
    let row = c.as_slice.ensures.value ∙ sym (items_at_read c.args.inward.now c.args.vertex c.index-inward-vertex.result c.requires.vertex c.index-inward-vertex.is) in
    subst (λ (ps : List Place). All (λ p. part_of self c.args.vertex ≤ part_of self p.vertex) ps) row
    (subst (λ (n : ℕ). All (λ p. n ≤ part_of self p.vertex) c.as_slice.result.now) c.part_of.ensures (c.fall.ensures c.if-not-fall.false))

pub returns-then-leads_up-clause-falls : goal.returns-then-leads_up-clause-falls
returns-then-leads_up-clause-falls c = λ _.
    let self = c.args.self.now in
    let row = c.as_slice.ensures.value ∙ sym (items_at_read c.args.inward.now c.args.vertex c.index-inward-vertex.result c.requires.vertex c.index-inward-vertex.is) in
    subst (λ (ps : List Place). All (λ p. part_of self c.args.vertex ≤ part_of self p.vertex) ps) row
    (subst (λ (n : ℕ). All (λ p. n ≤ part_of self p.vertex) c.as_slice.result.now) c.part_of.ensures (c.fall.ensures c.if-not-fall.false))
