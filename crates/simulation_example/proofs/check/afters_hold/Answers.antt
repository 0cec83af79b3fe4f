use Rattle.std.proofs.Common.{arith}
use Rattle.simulation.specs.Valid.{AfterHolds}
use Rattle.simulation_example.specs.Example.{example, rules}
use Rattle.simulation_example.proofs.LoopLemmas.{stops, goes_on, ends}
use Rattle.simulation_example.proofs.check.afters_hold.Goals as goal

pub returns-then-not-after_holds : goal.returns-then-not-after_holds
returns-then-not-after_holds c = λ image.
    stops (AfterHolds (example image) (rules image) (record { function = c.args.function.now; site = c.args.site.now; instr = c.args.instr })) c.args.site.now.vertices.items c.loop-vertex.vertex-index c.vertex-item.result c.after_holds.result (omega arith) (cc (c.vertex-item.is, c.deref-vertex-items.ensures.value)) (c.after_holds.ensures image) (cc)

pub loop-vertex-preserved : goal.loop-vertex-preserved
loop-vertex-preserved c = λ image.
    goes_on (AfterHolds (example image) (rules image) (record { function = c.args.function.now; site = c.args.site.now; instr = c.args.instr })) c.args.site.now.vertices.items c.loop-vertex.vertex-index c.vertex-item.result c.after_holds.result (omega arith) (cc (c.vertex-item.is, c.deref-vertex-items.ensures.value)) (c.after_holds.ensures image) (cc) (c.loop-vertex.invariant image)

pub returns : goal.returns
returns c = λ image.
    ends (AfterHolds (example image) (rules image) (record { function = c.args.function.now; site = c.args.site.now; instr = c.args.instr })) c.args.site.now.vertices.items c.loop-vertex.vertex-index (omega arith) (c.loop-vertex.invariant image)
