use Rattle.std.proofs.Common.{arith}
use Rattle.simulation.specs.Valid.{SiteHolds}
use Rattle.simulation_example.specs.Example.{example, rules}
use Rattle.simulation_example.proofs.LoopLemmas.{stops, goes_on, ends}
use Rattle.simulation_example.proofs.check.sites_hold.Goals as goal

pub returns-then-not-site_holds : goal.returns-then-not-site_holds
returns-then-not-site_holds c =
    stops (SiteHolds (example c.args.image.now) (rules c.args.image.now) c.args.graph.now c.args.function.now) c.args.function.now.sites.items c.loop-site.site-index c.site-item.result c.site_holds.result (omega arith) (cc (c.site-item.is, c.deref-site-items.ensures.value)) c.site_holds.ensures (cc)

pub loop-site-preserved : goal.loop-site-preserved
loop-site-preserved c =
    goes_on (SiteHolds (example c.args.image.now) (rules c.args.image.now) c.args.graph.now c.args.function.now) c.args.function.now.sites.items c.loop-site.site-index c.site-item.result c.site_holds.result (omega arith) (cc (c.site-item.is, c.deref-site-items.ensures.value)) c.site_holds.ensures (cc) c.loop-site.invariant

pub returns : goal.returns
returns c =
    ends (SiteHolds (example c.args.image.now) (rules c.args.image.now) c.args.graph.now c.args.function.now) c.args.function.now.sites.items c.loop-site.site-index (omega arith) c.loop-site.invariant
