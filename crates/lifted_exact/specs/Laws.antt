-- What holds of the function that is built of what was found and is known, where a round changed nothing.
use Rattle.std.specs.Prelude.{ℕ, List}
use Rattle.predicates.specs.Predicate.{Predicate}
use Rattle.graph_data.specs.WellFormed.{IsFunction}
use Rattle.graph_data.specs.declared.graph.Function.{Function}
use Rattle.lift_graph.specs.declared.graph.Graph.{Graph}
use Rattle.lift_rounds.specs.Known.{Known}
use Rattle.site_lines.specs.Subject.{Subject}
use Rattle.lifted_parts.specs.Built.{IsBuilt}
use Rattle.lifted_parts.specs.Exact.{IsExact}
use Rattle.lifted_parts.specs.Rest.{IsAtRest}
use Rattle.lifted_exact.specs.Looked.{AreLooked}

-- each vertex that is neither the entry vertex nor a loop head is the merge of the cases that come to it
abbrev pub ExactLaw : Type 0
ExactLaw =
    (s : Subject) (g : Graph) (known : List (Known Predicate)) (entry : ℕ) (f : Function) → IsAtRest s g known entry →
    IsBuilt s g known entry f → IsExact s.image f

-- where its parts were looked at it is in form
abbrev pub FormLaw : Type 0
FormLaw =
    (s : Subject) (g : Graph) (known : List (Known Predicate)) (entry : ℕ) (f : Function) → IsAtRest s g known entry →
    IsBuilt s g known entry f → AreLooked f → IsFunction f
