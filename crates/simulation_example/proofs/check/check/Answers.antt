use Rattle.std.proofs.Common.{◌≡◌, false, arith}
use Rattle.simulation.specs.Valid.{FunctionHolds}
use Rattle.simulation_example.specs.Example.{example, rules}
use Rattle.simulation_example.proofs.LoopLemmas.{stops, goes_on, ends}
use Rattle.simulation_example.proofs.check.check.Goals as goal

pub returns-then-not-refused_or_holds : goal.returns-then-not-refused_or_holds
returns-then-not-refused_or_holds c =
    stops (λ function. function.refused ≡ false → FunctionHolds (example c.args.image.now) (rules c.args.image.now) c.args.graph.now function) c.args.graph.now.functions.items c.loop-function.function-index c.function-item.result c.refused_or_holds.result (omega arith) (cc (c.function-item.is, c.deref-function-items.ensures.value)) c.refused_or_holds.ensures (cc)

pub loop-function-preserved : goal.loop-function-preserved
loop-function-preserved c =
    goes_on (λ function. function.refused ≡ false → FunctionHolds (example c.args.image.now) (rules c.args.image.now) c.args.graph.now function) c.args.graph.now.functions.items c.loop-function.function-index c.function-item.result c.refused_or_holds.result (omega arith) (cc (c.function-item.is, c.deref-function-items.ensures.value)) c.refused_or_holds.ensures (cc) c.loop-function.invariant

pub returns : goal.returns
returns c =
    ends (λ function. function.refused ≡ false → FunctionHolds (example c.args.image.now) (rules c.args.image.now) c.args.graph.now function) c.args.graph.now.functions.items c.loop-function.function-index (omega arith) c.loop-function.invariant
