-- What is held, wherever it stands, as plain data.
use Rattle.std.specs.Prelude.{Option, Some, None, List}
use Rattle.sym_terms.specs.Plain.{PlainSum}
use Rattle.mem_forest.specs.Plain.{PlainForest}
use Rattle.predicates.specs.declared.bound.FlagFact.{FlagFact}
use Rattle.predicates.specs.declared.bound.Bound.{Bound}
use Rattle.step_values.specs.declared.slot.HeldTerm.{HeldTerm}
use Rattle.step_values.specs.declared.slot.HeldTerm.TheVariants as term
use Rattle.step_values.specs.declared.fact.HeldFact.{HeldFact}
use Rattle.step_values.specs.declared.fact.HeldFact.TheVariants as fact
use Rattle.step_values.specs.declared.bounds.HeldBounds.{HeldBounds}
use Rattle.step_values.specs.declared.bounds.HeldBounds.TheVariants as bounds
use Rattle.step_values.specs.declared.memory.HeldForest.{HeldForest}
use Rattle.step_values.specs.declared.memory.HeldForest.TheVariants as forest

-- a term that may be unknown
abbrev pub held_term : HeldTerm → Option PlainSum
held_term term.Unknown = None
held_term (term.Kept t) = Some t.now
held_term (term.Made t) = Some t

-- a flag fact, or none
abbrev pub held_fact : HeldFact → Option FlagFact
held_fact fact.Unknown = None
held_fact (fact.Kept f) = Some f.now
held_fact (fact.Made f) = Some f

-- bounds
abbrev pub held_bounds : HeldBounds → List Bound
held_bounds (bounds.Kept b) = b.now
held_bounds (bounds.Made b) = b

-- a forest
abbrev pub held_forest : HeldForest → PlainForest
held_forest (forest.Kept f) = f.now
held_forest (forest.Made f) = f
