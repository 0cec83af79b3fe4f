use Rattle.std.proofs.Common.{◌≡◌, slice_index, sym, ap, ◌∙◌, subst, inr, arith}
use Rattle.lift_graph.specs.Heads.{IsSource}
use Rattle.lift_graph.specs.Components.{part_of}
use Rattle.lift_graph.proofs.RowLemmas.{items_at_read}
use Rattle.lift_graph.proofs.components.Components.leads_up.Goals as goal

pub returns : goal.returns
returns c = λ _.
    let inward = c.args.inward.now in
    let self = c.args.self.now in
    let next = c.read-next.result in
    let row = c.as_slice-3.ensures.value ∙ sym (items_at_read inward next c.index-inward-next.result c.if-inward-next.false c.index-inward-next.is) in
    let part : part_of self next ≡ part_of self c.args.vertex = sym c.part_of.ensures ∙ c.if-part_of.false ∙ c.part_of-2.ensures in
    let up : c.read-up.result ≡ slice_index self.up.items next = c.read-up.ensures ∙ ap (λ xs. slice_index xs next) c.as_slice-4.ensures.value in
    let most : c.read-most.result ≡ slice_index self.up.items c.args.vertex = c.read-most.ensures ∙ ap (λ xs. slice_index xs c.args.vertex) c.as_slice-5.ensures.value in
    let less = c.if-most-up.false in
    inr (next, c.if-inward-next.false, subst (IsSource c.args.vertex) row (c.is_source_at.ensures c.if-not-is_source_at.false), part, omega arith)
