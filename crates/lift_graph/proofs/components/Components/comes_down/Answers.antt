use Rattle.std.proofs.Common.{◌≡◌, slice_index, sym, ap, ◌∙◌, subst, inr, arith}
use Rattle.lift_graph.specs.Heads.{IsSource}
use Rattle.lift_graph.specs.Components.{part_of}
use Rattle.lift_graph.proofs.RowLemmas.{items_at_read}
use Rattle.lift_graph.proofs.components.Components.comes_down.Goals as goal

pub returns : goal.returns
returns c = λ _.
    let inward = c.args.inward.now in
    let self = c.args.self.now in
    let last = c.read-last.result in
    let row = c.as_slice-2.ensures.value ∙ sym (items_at_read inward c.args.vertex c.index-inward-vertex.result c.requires c.index-inward-vertex.is) in
    let part : part_of self last ≡ part_of self c.args.vertex = sym c.part_of.ensures ∙ c.if-part_of.false ∙ c.part_of-2.ensures in
    let down : c.read-down.result ≡ slice_index self.down.items last = c.read-down.ensures ∙ ap (λ xs. slice_index xs last) c.as_slice-3.ensures.value in
    let most : c.read-most.result ≡ slice_index self.down.items c.args.vertex = c.read-most.ensures ∙ ap (λ xs. slice_index xs c.args.vertex) c.as_slice-4.ensures.value in
    let less = c.if-most-down.false in
    inr (last, c.if-inward-last.false, subst (IsSource last) row (c.is_source.ensures c.if-not-is_source.false), part, omega arith)
