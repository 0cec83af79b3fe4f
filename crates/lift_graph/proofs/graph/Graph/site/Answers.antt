use Rattle.lift_graph.proofs.SiteLemmas.{site_is}
use Rattle.lift_graph.proofs.graph.Graph.site.Goals as goal

pub returns-clause-site : goal.returns-clause-site
returns-clause-site c = site_is c.args.self.now c.args.address c.in_ok-vertices.vertices.items c.in_ok-vertices.ensures
