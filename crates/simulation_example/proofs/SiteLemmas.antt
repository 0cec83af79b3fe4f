-- Lemmas on the rules of a site at the instruction that stands there.
use Rattle.std.proofs.Common.{◌≡◌, Bool, ◌↔◌, IsTrue, sym, subst}
use Rattle.std.specs.Prelude.{Some, All, slice_get}
use Rattle.simulation.specs.World.{Class}
use Rattle.simulation.specs.Valid.{Place, EachVertex, AtInstr, KindHolds}
use Rattle.simulation_example.specs.declared.machine.Instr.{Instr}
use Rattle.simulation_example.specs.declared.machine.Image.{Image}
use Rattle.simulation_example.specs.declared.graph.Vertex.{Vertex}
use Rattle.simulation_example.specs.declared.graph.Kind.{Kind}
use Rattle.simulation_example.specs.declared.graph.Site.{Site}
use Rattle.simulation_example.specs.declared.graph.Function.{Function}
use Rattle.simulation_example.specs.declared.graph.Graph.{Graph}
use Rattle.simulation_example.specs.Machine.{class_of}
use Rattle.simulation_example.specs.Example.{kind_of, example, rules}

-- an answer on each vertex is one on the site, where the instruction has a right class
pub placed :
    (image : Image) (function : Function) (site : Site) (instr : Instr) (IsRight : Class → Type 0)
    (Holds : Place (example image) → Vertex → Type 0) (answer : Bool) →
    slice_get image.code.items site.address ≡ Some instr → IsRight (class_of instr) →
    IsTrue answer ↔ All (Holds (record { function = function; site = site; instr = instr })) site.vertices.items →
    IsTrue answer ↔ AtInstr (example image) function site (λ place. EachVertex (example image) place IsRight (Holds place))
placed image function site instr IsRight Holds answer is right each =
    rw is (λ yes. record { class = right; each = each.0 yes }, λ at. each.1 at.each)

-- an answer on the rules of a kind is one on those of the site that has it
pub by_kind :
    (image : Image) (graph : Graph) (function : Function) (site : Site) (kind : Kind) (answer : Bool) → site.kind ≡ kind →
    IsTrue answer ↔ KindHolds (example image) (rules image) graph function site (kind_of kind) →
    IsTrue answer ↔ KindHolds (example image) (rules image) graph function site (kind_of site.kind)
by_kind image graph function site kind answer is holds =
    subst (λ k. IsTrue answer ↔ KindHolds (example image) (rules image) graph function site (kind_of k)) (sym is) holds
