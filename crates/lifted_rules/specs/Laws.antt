-- What holds of a function that is built of what was found and is known.
use Rattle.std.specs.Prelude.{ℕ, List}
use Rattle.predicates.specs.Predicate.{Predicate}
use Rattle.graph_data.specs.declared.graph.Function.{Function}
use Rattle.lift_graph.specs.declared.graph.Graph.{Graph}
use Rattle.lift_rounds.specs.Known.{Known}
use Rattle.site_lines.specs.Subject.{Subject}
use Rattle.lifted_parts.specs.Built.{IsBuilt}
use Rattle.lifted_parts.specs.Rest.{IsAtRest}
use Rattle.lifted_parts.specs.Whole.{IsValidFunction, CallsCode}

-- where a round changed nothing each rule holds, in every graph that has what the function calls
abbrev pub ValidLaw : Type 0
ValidLaw =
    (s : Subject) (g : Graph) (known : List (Known Predicate)) (entry : ℕ) (f : Function) →
    IsAtRest s g known entry → IsBuilt s g known entry f → IsValidFunction s.image f

-- each function that it calls is code, and not outside
abbrev pub CodeLaw : Type 0
CodeLaw =
    (s : Subject) (g : Graph) (known : List (Known Predicate)) (entry : ℕ) (f : Function) →
    IsBuilt s g known entry f → CallsCode s.image s.externs f
