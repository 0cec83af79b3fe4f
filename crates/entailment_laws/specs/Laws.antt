-- What holds of entailment.
use Rattle.std.specs.Prelude.{◌≡◌, ◌↔◌, ℕ, List, Some, IsNone, IsSomeAnd, length, slice_get}
use Rattle.std.specs.List.{Contains}
use Rattle.sym_terms.specs.Plain.{PlainSum}
use Rattle.mem_forest.specs.Plain.{PlainNode}
use Rattle.mem_forest.specs.Shape.{IsForest}
use Rattle.predicates.specs.declared.bound.FlagFact.{FlagFact}
use Rattle.predicates.specs.declared.bound.Bound.{Bound}
use Rattle.predicates.specs.Places.{node_under}
use Rattle.predicates.specs.Predicate.{Predicate}
use Rattle.predicates.specs.Entails.{Entails}
use Rattle.predicates.specs.Missing.{missing}
use Rattle.predicates.specs.Weaken.{weaken}

-- a predicate entails itself
abbrev pub ReflexiveLaw : Type 0
ReflexiveLaw = (p : Predicate) → Entails p p

-- what is entailed by one that is entailed is entailed
abbrev pub TransitiveLaw : Type 0
TransitiveLaw = (p q r : Predicate) → Entails p q → Entails q r → Entails p r

-- where as many registers stand on both sides and nodes are a forest, nothing is missing exactly where
-- the first entails the second
abbrev pub DecidedLaw : Type 0
DecidedLaw = (p q : Predicate) → length p.regs ≡ length q.regs → IsForest q.forest → IsNone (missing p q) ↔ Entails p q

-- predicates with the same parts are the same
abbrev pub SameLaw : Type 0
SameLaw = (p q : Predicate) → p.regs ≡ q.regs → p.flags ≡ q.flags → p.bounds ≡ q.bounds → p.forest ≡ q.forest → p ≡ q

-- a predicate entails what is left of it where only what another entails stays
abbrev pub OwnLaw : Type 0
OwnLaw = (p r : Predicate) → IsForest p.forest → Entails p (weaken p r)

-- so does the other
abbrev pub OtherLaw : Type 0
OtherLaw = (p r : Predicate) → Entails r (weaken p r)

-- nothing goes exactly where the other entails the predicate
abbrev pub UnchangedLaw : Type 0
UnchangedLaw = (p r : Predicate) → IsForest p.forest → (weaken p r ≡ p) ↔ Entails r p

-- each conjunct of q is one of p: a term of a register, the flag fact, a bound, a node at its place
pub record IsPartOf (q p : Predicate) : Type 0 where
  pub registers : (n : ℕ) (t : PlainSum) → slice_get q.regs n ≡ Some (Some t) → slice_get p.regs n ≡ Some (Some t)
  pub flags : (f : FlagFact) → q.flags ≡ Some f → p.flags ≡ Some f
  pub bounds : (b : Bound) → Contains q.bounds b → Contains p.bounds b
  pub cells : (parents : List (PlainSum × ℕ)) (at : PlainSum) (bytes : ℕ) (c : PlainNode)
      → node_under parents at bytes q.forest ≡ Some c
      → IsSomeAnd (node_under parents at bytes p.forest) (λ d. (d.names ≡ c.names) × (d.value ≡ c.value))

-- what is left entails every part of the predicate that the other entails: nothing goes that could stay
abbrev pub GreatestLaw : Type 0
GreatestLaw = (p q r : Predicate) → IsPartOf q p → Entails r q → Entails (weaken p r) q
