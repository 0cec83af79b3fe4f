use Rattle.simulation_example.specs.declared.graph.Kind.TheVariants.{Step, Outside, Return}
use Rattle.simulation_example.proofs.SiteLemmas.{by_kind}
use Rattle.simulation_example.proofs.check.kind_holds.Goals as goal

pub returns-in-Step : goal.returns-in-Step
returns-in-Step c =
    by_kind c.args.image.now c.args.graph.now c.args.function.now c.args.site.now Step c.step_site.result c.in-Step.is (c.step_site.ensures c.args.graph.now)

pub returns-in-Outside : goal.returns-in-Outside
returns-in-Outside c =
    by_kind c.args.image.now c.args.graph.now c.args.function.now c.args.site.now Outside c.outside_site.result c.in-Outside.is (c.outside_site.ensures c.args.graph.now)

pub returns-in-Return : goal.returns-in-Return
returns-in-Return c =
    by_kind c.args.image.now c.args.graph.now c.args.function.now c.args.site.now Return c.return_site.result c.in-Return.is (c.return_site.ensures c.args.graph.now)
