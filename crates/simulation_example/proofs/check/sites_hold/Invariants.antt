use Rattle.std.proofs.Common.{take}
use Rattle.std.specs.Prelude.{All}
use Rattle.simulation.specs.Valid.{SiteHolds}
use Rattle.simulation_example.specs.Example.{example, rules}
use Rattle.simulation_example.proofs.check.sites_hold.Given as goal

abbrev pub invariant-loop-site : goal.invariant-loop-site
invariant-loop-site l = All (SiteHolds (example l.image) (rules l.image) l.graph l.function) (take l.site-index l.function.sites.items)
