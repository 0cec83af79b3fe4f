-- What the step rules know of a site beside its instruction and its predicate.
use Rattle.std.specs.Prelude.{Option, List, ◌∷◌}
use Rattle.memory_regions.specs.declared.region.Region.{Region}
use Rattle.memory_regions.specs.Relate.{Known}

-- what is assumed (the executable, the frame, the pairs that are separate), the pair that is told apart, and the regions
-- that a callee keeps
pub record View : Type 0 where
  pub known : Known
  pub fork : Option (Region × Region)
  pub keeps : List Region

-- the view in which one more pair is separate
abbrev pub parted : View → Region × Region → View
parted v pair = record v { known = record v.known { seps = pair ∷ v.known.seps } }
