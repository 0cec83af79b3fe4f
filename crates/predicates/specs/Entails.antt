-- When one predicate says all that another says, conjunct by conjunct.
use Rattle.std.specs.Prelude.{◌≡◌, ℕ, Some, List, slice_get, IsTrue, IsSomeAnd}
use Rattle.std.specs.List.{Contains}
use Rattle.sym_terms.specs.Plain.{PlainSum}
use Rattle.mem_forest.specs.Plain.{PlainNode}
use Rattle.predicates.specs.declared.bound.FlagFact.{FlagFact}
use Rattle.predicates.specs.declared.bound.Bound.{Bound}
use Rattle.predicates.specs.Predicate.{Predicate}
use Rattle.predicates.specs.Holding.{holds_bound}
use Rattle.predicates.specs.Places.{node_under, holds_node}

-- p knows each register, the flag fact and each bound that q knows, and has each node of q at its
-- place, the first names and sizes of its parents and its own, with its names and its value
pub record Entails (p q : Predicate) : Type 0 where
  pub registers : (r : ℕ) (t : PlainSum) → slice_get q.regs r ≡ Some (Some t) → slice_get p.regs r ≡ Some (Some t)
  pub flags : (f : FlagFact) → q.flags ≡ Some f → p.flags ≡ Some f
  pub bounds : (b : Bound) → Contains q.bounds b → IsTrue (holds_bound p.bounds b)
  pub cells : (parents : List (PlainSum × ℕ)) (at : PlainSum) (bytes : ℕ) (c : PlainNode)
      → node_under parents at bytes q.forest ≡ Some c
      → IsSomeAnd (node_under parents at bytes p.forest) (λ d. IsTrue (holds_node d c.names c.value))
