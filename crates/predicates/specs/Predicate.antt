-- What a predicate is as plain data, and what each holds.
use Rattle.std.specs.Prelude.{◌≡◌, IsTrue, Option, List, length}
use Rattle.sym_terms.specs.Plain.{PlainSum}
use Rattle.mem_forest.specs.Plain.{PlainForest}
use Rattle.predicates.specs.declared.bound.FlagFact.{FlagFact}
use Rattle.predicates.specs.declared.bound.Bound.{Bound}
use Rattle.predicates.specs.Limits.{registers}
use Rattle.predicates.specs.Bounds.{are_bounds}

-- what is known of registers by number, of the flags, of terms' values, and of memory
pub record Predicate : Type 0 where
  pub regs : List (Option PlainSum)
  pub flags : Option FlagFact
  pub bounds : List Bound
  pub forest : PlainForest

-- each register is told of, and the bounds are in form
pub record IsPredicate (p : Predicate) : Type 0 where
  pub sixteen : length p.regs ≡ registers
  pub bounded : IsTrue (are_bounds p.bounds)
