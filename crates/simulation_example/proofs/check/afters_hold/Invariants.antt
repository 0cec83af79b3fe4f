use Rattle.std.proofs.Common.{take}
use Rattle.std.specs.Prelude.{All}
use Rattle.simulation.specs.Valid.{AfterHolds}
use Rattle.simulation_example.specs.declared.machine.Image.{Image}
use Rattle.simulation_example.specs.Example.{example, rules}
use Rattle.simulation_example.proofs.check.afters_hold.Given as goal

abbrev pub invariant-loop-vertex : goal.invariant-loop-vertex
invariant-loop-vertex l =
    (image : Image) → All (AfterHolds (example image) (rules image) (record { function = l.function; site = l.site; instr = l.instr })) (take l.vertex-index l.site.vertices.items)
