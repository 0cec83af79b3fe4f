use Rattle.std.proofs.Common.{sym, ◌∙◌, subst}
use Rattle.lift_graph.specs.Heads.{IsSource}
use Rattle.lift_graph.proofs.RowLemmas.{items_at_read}
use Rattle.lift_graph.proofs.ComponentLemmas.{part_back, part_last}
use Rattle.lift_graph.proofs.heads.is_on_cycle.Goals as goal

pub returns-clause-found : goal.returns-clause-found
returns-clause-found c = λ t.
    let inward = c.args.inward.now in
    let row = c.as_slice-places.ensures.value ∙ sym (items_at_read inward c.args.vertex c.index-inward-vertex.result c.requires.vertex c.index-inward-vertex.is) in
    let f = c.have_source_in.ensures.found t in
    part_back inward _ c.args.parts.now c.requires.within (c.requires.parts c.if-not-right.false) f.0 c.args.vertex c.requires.vertex (subst (IsSource f.0) row f.1) (f.2 ∙ c.part_of.ensures)

pub returns-clause-only : goal.returns-clause-only
returns-clause-only c = λ back.
    let inward = c.args.inward.now in
    let row = c.as_slice-places.ensures.value ∙ sym (items_at_read inward c.args.vertex c.index-inward-vertex.result c.requires.vertex c.index-inward-vertex.is) in
    let w = part_last inward _ c.args.parts.now c.requires.within (c.requires.parts c.if-not-right.false) c.args.vertex c.requires.vertex back in
    c.have_source_in.ensures.only w.0 (subst (IsSource w.0) (sym row) w.1) (w.2 ∙ sym c.part_of.ensures)

pub returns-then-not-right-clause-only : goal.returns-then-not-right-clause-only
returns-then-not-right-clause-only c = λ back. c.in_ok-back.ensures.only back.0 back.1
