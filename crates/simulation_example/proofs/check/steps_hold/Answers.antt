use Rattle.std.proofs.Common.{arith}
use Rattle.simulation.specs.Valid.{StepHolds}
use Rattle.simulation_example.specs.Example.{example, rules}
use Rattle.simulation_example.proofs.LoopLemmas.{stops, goes_on, ends}
use Rattle.simulation_example.proofs.check.steps_hold.Goals as goal

pub returns-then-not-step_holds : goal.returns-then-not-step_holds
returns-then-not-step_holds c = λ image.
    stops (StepHolds (example image) (rules image) (record { function = c.args.function.now; site = c.args.site.now; instr = c.args.instr })) c.args.site.now.vertices.items c.loop-vertex.vertex-index c.vertex-item.result c.step_holds.result (omega arith) (cc (c.vertex-item.is, c.deref-vertex-items.ensures.value)) (c.step_holds.ensures image) (cc)

pub loop-vertex-preserved : goal.loop-vertex-preserved
loop-vertex-preserved c = λ image.
    goes_on (StepHolds (example image) (rules image) (record { function = c.args.function.now; site = c.args.site.now; instr = c.args.instr })) c.args.site.now.vertices.items c.loop-vertex.vertex-index c.vertex-item.result c.step_holds.result (omega arith) (cc (c.vertex-item.is, c.deref-vertex-items.ensures.value)) (c.step_holds.ensures image) (cc) (c.loop-vertex.invariant image)

pub returns : goal.returns
returns c = λ image.
    ends (StepHolds (example image) (rules image) (record { function = c.args.function.now; site = c.args.site.now; instr = c.args.instr })) c.args.site.now.vertices.items c.loop-vertex.vertex-index (omega arith) (c.loop-vertex.invariant image)
