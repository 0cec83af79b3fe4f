use Rattle.std.proofs.Common.{refl}
use Rattle.edge_checker.proofs.FirstLemmas.{stops, goes_on, ends}
use Rattle.edge_checker.proofs.PlaceLemmas.{numbered_within, numbered_past, numbered_at}
use Rattle.edge_checker.proofs.sites.first_vertex_break.Goals as goal

pub returns-then-is_some : goal.returns-then-is_some
returns-then-is_some c =
    let same = c.as_slice-vertex-items.ensures in
    stops c.loop-number.invariant refl (numbered_within same c.loop-number-test.true) (numbered_at same c.loop-number-test.true c.vertex-item.is) c.in_ok-broken.ensures c.is_some.ensures c.if-is_some.true

pub loop-number-preserved : goal.loop-number-preserved
loop-number-preserved c =
    let same = c.as_slice-vertex-items.ensures in
    goes_on c.loop-number.invariant refl (numbered_within same c.loop-number-test.true) (numbered_at same c.loop-number-test.true c.vertex-item.is) c.in_ok-broken.ensures c.is_some.ensures c.if-is_some.false

pub returns : goal.returns
returns c = ends c.loop-number.invariant refl (numbered_past c.as_slice-vertex-items.ensures c.loop-number-test.false)
