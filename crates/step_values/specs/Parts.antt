-- A predicate with another part.
use Rattle.std.specs.Prelude.{List}
use Rattle.mem_forest.specs.Plain.{PlainForest}
use Rattle.predicates.specs.declared.bound.Bound.{Bound}
use Rattle.predicates.specs.Predicate.{Predicate}

-- with other knowledge of memory
abbrev pub with_forest : Predicate → PlainForest → Predicate
with_forest p f = record p { forest = f }

-- with other bounds
abbrev pub with_bounds : Predicate → List Bound → Predicate
with_bounds p bounds = record p { bounds = bounds }
