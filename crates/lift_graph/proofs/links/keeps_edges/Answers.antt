use Rattle.std.proofs.Common.{◌↔◌, ℕ, List, Some, IsTrue, map, slice_get, sym, ◌∙◌, subst, arith}
use Rattle.lift_graph.specs.Rows.{items_at}
use Rattle.lift_graph.specs.Links.{IsSublist}
use Rattle.lift_graph.specs.declared.graph.Key.{Key}
use Rattle.lift_graph.proofs.RowLemmas.{items_at_read}
use Rattle.lift_graph.proofs.links.keeps_edges.Goals as goal

pub returns : goal.returns
returns c =
    let g = c.args.graph.now in
    let row = c.as_slice-row.ensures.value ∙ sym (items_at_read g.targets.items c.args.vertex c.index.result.now (omega arith) c.index.ensures) in
    subst (λ (ks : List Key). IsTrue c.are_kept.result ↔ IsSublist (map (slice_get ks) (items_at g.targets.items c.args.vertex)) (map Some c.args.keys.now)) c.as_slice.ensures.value
    (subst (λ (vs : List ℕ). IsTrue c.are_kept.result ↔ IsSublist (map (slice_get c.as_slice.result.now) vs) (map Some c.args.keys.now)) row c.are_kept.ensures)
