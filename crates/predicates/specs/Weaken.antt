-- What is left of a predicate where only the conjuncts stay that another entails.
use Rattle.std.specs.Prelude.{if◌then◌else◌, Option, None, List, [], ◌∷◌, filter}
use Rattle.sym_terms.specs.Plain.{PlainSum}
use Rattle.mem_forest.specs.Holders.{weakened}
use Rattle.predicates.specs.declared.bound.FlagFact.{FlagFact}
use Rattle.predicates.specs.declared.bound.Bound.{Bound}
use Rattle.predicates.specs.Predicate.{Predicate}
use Rattle.predicates.specs.Holding.{holds_term, holds_flags, holds_bound}

-- the terms of registers that are the same in the first list
abbrev pub weaker_registers : List (Option PlainSum) → List (Option PlainSum) → List (Option PlainSum)
weaker_registers held [] = []
weaker_registers [] (t ∷ ts) = None ∷ weaker_registers [] ts
weaker_registers (h ∷ hs) (t ∷ ts) = (if holds_term h t then t else None) ∷ weaker_registers hs ts

-- a flag fact that is the first
abbrev pub weaker_flags : Option FlagFact → Option FlagFact → Option FlagFact
weaker_flags held flags = if holds_flags held flags then flags else None

-- the bounds that one of the first holds
abbrev pub weaker_bounds : List Bound → List Bound → List Bound
weaker_bounds held bounds = filter (λ b. holds_bound held b) bounds

-- the first predicate with exactly the conjuncts that the second entails; a node that goes takes those under it
abbrev pub weaken : Predicate → Predicate → Predicate
weaken p r = record {
  regs = weaker_registers r.regs p.regs;
  flags = weaker_flags r.flags p.flags;
  bounds = weaker_bounds r.bounds p.bounds;
  forest = weakened r.forest p.forest;
}
