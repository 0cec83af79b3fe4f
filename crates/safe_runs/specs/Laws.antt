-- What the theorem over runs says of x86-64 and the rules of every instruction.
use Rattle.simulation.specs.Laws.{Laws}
use Rattle.simulation.specs.Valid.{Valid}
use Rattle.elf_image.specs.declared.image.Image.{Image}
use Rattle.elf_image.specs.Image.{IsImage}
use Rattle.graph_data.specs.declared.graph.Graph.{Graph}
use Rattle.graph_data.specs.WellFormed.{IsWellFormed}
use Rattle.graph_runs.specs.World.{x86, HasSafeRuns}
use Rattle.graph_rules.specs.Rules.{rules}

-- the laws of one instruction hold, of every executable in form
abbrev pub LawsHold : Type 0
LawsHold = (image : Image) → IsImage image → Laws (x86 image) (rules image)

-- every run that keeps what a graph prints is safe, where the graph is well formed and keeps the rules
abbrev pub SafeLaw : Type 0
SafeLaw =
    (image : Image) (graph : Graph) → IsImage image → IsWellFormed graph →
    Valid (x86 image) (rules image) graph → HasSafeRuns image graph
