-- Entailment and weakening of predicates, defined of all plain data so that their laws have no premise: of predicates in form they
-- are what they are elsewhere.
use Rattle.std.specs.Prelude.{ℕ, ◌+◌, ◌==◌, Bool, ◌&&◌, ◌||◌, not, nat_le, if◌then◌else◌, is_none, [], length, replicate, None}
use Rattle.mem_forest.specs.Plain.{PlainForest, none, count}
use Rattle.mem_forest.specs.Shape.{shaped, all_alone}
use Rattle.predicates.specs.Limits.{registers}
use Rattle.predicates.specs.Predicate.{Predicate}
use Rattle.predicates.specs.Missing.{missing}
use Rattle.predicates.specs.Weaken.{weaken}
use Rattle.predicates.specs.Weight.{weight_of}

-- whether nodes are a forest
abbrev pub is_forest : PlainForest → Bool
is_forest f = nat_le (count f) 64 && (shaped f && all_alone f f)

-- whether each register is told of, and the nodes are a forest
abbrev pub is_shaped : Predicate → Bool
is_shaped p = (length p.regs == registers) && is_forest p.forest

-- nothing is known
abbrev pub nothing : Predicate
nothing = record { regs = replicate registers None; flags = None; bounds = []; forest = none }

-- whether the first entails the second
abbrev pub entails : Predicate → Predicate → Bool
entails p q = not (is_shaped p) || (is_shaped q && is_none (missing p q))

-- the first with the conjuncts that the second entails
abbrev pub weakened : Predicate → Predicate → Predicate
weakened p q = if is_shaped q then (if is_shaped p then weaken p q else nothing) else p

-- the number of conjuncts
abbrev pub weight : Predicate → ℕ
weight p = if is_shaped p then weight_of p else weight_of p + 1
