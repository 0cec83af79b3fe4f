use Rattle.std.proofs.Common.{◌≡◌, false, take}
use Rattle.std.specs.Prelude.{All}
use Rattle.simulation.specs.Valid.{FunctionHolds}
use Rattle.simulation_example.specs.Example.{example, rules}
use Rattle.simulation_example.proofs.check.check.Given as goal

abbrev pub invariant-loop-function : goal.invariant-loop-function
invariant-loop-function l =
    All (λ function. function.refused ≡ false → FunctionHolds (example l.image) (rules l.image) l.graph function) (take l.function-index l.graph.functions.items)
