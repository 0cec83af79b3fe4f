-- What the rules know of a site, of the code's view of it.
use Rattle.std.specs.Option.{option_map}
use Rattle.memory_regions.specs.Context.{known}
use Rattle.predicates.specs.declared.site.SiteView.{SiteView}
use Rattle.step_rules.specs.View.{View}

-- what is assumed there, the pair that is told apart, and the regions that a callee keeps
abbrev pub view_of : SiteView → View
view_of v = record { known = known v.context; fork = option_map (λ pair. pair.now) v.fork; keeps = v.keeps.now }
