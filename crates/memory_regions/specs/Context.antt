-- A site's assumptions as plain data.
use Rattle.memory_regions.specs.declared.region.Context.{Context}
use Rattle.memory_regions.specs.Relate.{Known}

-- what a context refers to
abbrev pub known : Context → Known
known c = record { image = c.image.now; below = c.below; above = c.above; seps = c.seps.now }
