-- How many conjuncts a predicate has.
use Rattle.std.specs.Prelude.{ℕ, ◌+◌, length, is_some}
use Rattle.std.specs.Int.{from_bool}
use Rattle.mem_forest.specs.Plain.{count}
use Rattle.predicates.specs.Registers.{known_among}
use Rattle.predicates.specs.Predicate.{Predicate}

-- the number of conjuncts: known registers, the flag fact, bounds and nodes
abbrev pub weight_of : Predicate → ℕ
weight_of p = known_among p.regs + from_bool (is_some p.flags) + length p.bounds + count p.forest
