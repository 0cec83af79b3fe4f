use Rattle.std.proofs.Common.{◌≡◌, get_or, refl}
use Rattle.std.proofs.lemmas.List.{get_or_default}
use Rattle.edge_checker.specs.Breaks.{first, edge_breaks}
use Rattle.edge_checker.proofs.FirstLemmas.{stops, goes_on, ends}
use Rattle.edge_checker.proofs.PlaceLemmas.{paired, paired_within, paired_past}
use Rattle.edge_checker.proofs.edges.first_edge_break.Goals as goal

pub returns-then-is_some : goal.returns-then-is_some
returns-then-is_some c =
    let edge = get_or c.args.out.now c.loop-case.case (0, 0) in
    let at = paired (λ x. c.edge_break-broken.result ≡ first (edge_breaks c.args.f.now c.args.s.now c.args.number (c.loop-case.case, (x, edge))))
    c.args.cases.now c.args.out.now c.loop-case.case edge c.requires.same c.loop-case-test.true
    (get_or_default c.args.out.now c.loop-case.case (0, 0) edge c.loop-case-test.true) c.edge_break-broken.ensures in
    stops c.loop-case.invariant refl (paired_within c.args.cases.now c.args.out.now c.loop-case.case c.requires.same c.loop-case-test.true) at.1.0 at.1.1 c.is_some.ensures c.if-is_some.true

pub loop-case-preserved : goal.loop-case-preserved
loop-case-preserved c =
    let edge = get_or c.args.out.now c.loop-case.case (0, 0) in
    let at = paired (λ x. c.edge_break-broken.result ≡ first (edge_breaks c.args.f.now c.args.s.now c.args.number (c.loop-case.case, (x, edge))))
    c.args.cases.now c.args.out.now c.loop-case.case edge c.requires.same c.loop-case-test.true
    (get_or_default c.args.out.now c.loop-case.case (0, 0) edge c.loop-case-test.true) c.edge_break-broken.ensures in
    goes_on c.loop-case.invariant refl (paired_within c.args.cases.now c.args.out.now c.loop-case.case c.requires.same c.loop-case-test.true) at.1.0 at.1.1 c.is_some.ensures c.if-is_some.false

pub returns : goal.returns
returns c = ends c.loop-case.invariant refl (paired_past c.args.cases.now c.args.out.now c.loop-case.case c.requires.same c.loop-case-test.false)
