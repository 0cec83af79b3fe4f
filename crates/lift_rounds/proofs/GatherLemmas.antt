-- A predicate weakened by cases, one at a time.
use Rattle.std.proofs.Common.{◌≡◌, List, [], ◌∷◌, Option, Some, None, refl}
use Rattle.lift_rounds.specs.Meaning.{Meaning}
use Rattle.lift_rounds.specs.Known.{gathered}

-- the first case, then the others
pub gathered_next : {R : Type 0} (m : Meaning R) (start : Option R) (c : R) (cs : List R) → gathered m start (c ∷ cs) ≡ gathered m (gathered m start (c ∷ [])) cs
gathered_next m None c cs = refl
gathered_next m (Some p) c cs = refl
