use Rattle.std.proofs.Common.{◌≡◌, ◌<◌, ℕ, List, get_or, length, sym, ap, subst, ◌∙◌, arith}
use Rattle.lift_graph.specs.Rows.{items_at}
use Rattle.lift_graph.proofs.RowLemmas.{items_at_read}
use Rattle.graph_data.specs.WellFormed.{IsEdge}
use Rattle.lifted_parts.specs.Built.{edge_to}
use Rattle.function_lifter.proofs.EachLemmas.{each_one_more, mapped_all, mapped_more}
use Rattle.function_lifter.proofs.numbers.edges_of.Goals as goal

pub edge_to-requires : goal.edge_to-requires
edge_to-requires c =
    let graph = c.args.graph.now in
    let row = c.as_slice-target-items.result.now in
    let n = c.loop-target.target-index in
    let same : row ≡ items_at graph.targets.items c.args.vertex = c.as_slice-target-items.ensures.value ∙ sym (items_at_read graph.targets.items c.args.vertex c.index.result.now (subst (λ k. c.args.vertex < k) (sym c.requires.graph.listed.square.targets) c.requires.vertex) c.index.ensures) in
    subst (λ (r : List ℕ). get_or r n 0 < length graph.keys.items) (sym same)
    (c.requires.graph.within c.args.vertex n 0 (subst (λ (r : List ℕ). n < length r) same c.loop-target-test.true)).1

pub loop-target-preserved : goal.loop-target-preserved
loop-target-preserved c =
    let graph = c.args.graph.now in
    let row = c.as_slice-target-items.result.now in
    let n = c.loop-target.target-index in
    let items = items_at graph.targets.items c.args.vertex in
    let same : row ≡ items = c.as_slice-target-items.ensures.value ∙ sym (items_at_read graph.targets.items c.args.vertex c.index.result.now (subst (λ k. c.args.vertex < k) (sym c.requires.graph.listed.square.targets) c.requires.vertex) c.index.ensures) in
    let edge = c.in_ok-edge_to.field-0 in
    record {
      value = mapped_more (edge_to graph) items n 0 c.loop-target.out c.push.new.self edge (subst (λ (r : List ℕ). n < length r) same c.loop-target-test.true)
          c.loop-target.invariant.value (subst (λ (r : List ℕ). edge ≡ edge_to graph (get_or r n 0)) same c.in_ok-edge_to.ensures.value) c.in_ok-push.ensures.ok;
      fits = each_one_more IsEdge c.loop-target.out c.push.new.self edge c.in_ok-push.ensures.ok c.loop-target.invariant.fits c.in_ok-edge_to.ensures.fits;
    }

pub returns-clause-value : goal.returns-clause-value
returns-clause-value c =
    let graph = c.args.graph.now in
    let row = c.as_slice-target-items.result.now in
    let n = c.loop-target.target-index in
    let items = items_at graph.targets.items c.args.vertex in
    let same : row ≡ items = c.as_slice-target-items.ensures.value ∙ sym (items_at_read graph.targets.items c.args.vertex c.index.result.now (subst (λ k. c.args.vertex < k) (sym c.requires.graph.listed.square.targets) c.requires.vertex) c.index.ensures) in
    let long = ap length same in
    let past = c.loop-target-test.false in
    mapped_all (edge_to graph) items n c.loop-target.out (omega (arith, long, past)) c.loop-target.invariant.value
