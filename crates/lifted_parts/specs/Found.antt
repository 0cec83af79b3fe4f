-- What the look-ups in a function that was built find.
use Rattle.std.specs.Prelude.{◌≡◌, ◌<◌, ℕ, List, length, Some}
use Rattle.elf_image.specs.declared.image.Image.{Image}
use Rattle.predicates.specs.Predicate.{Predicate}
use Rattle.graph_data.specs.declared.graph.Vertex.{Vertex}
use Rattle.graph_data.specs.declared.graph.Function.{Function}
use Rattle.graph_runs.specs.World.{x86}
use Rattle.simulation.specs.Graph.{vertex_at}
use Rattle.lift_graph.specs.Graph.{address_at}
use Rattle.lift_graph.specs.declared.graph.Graph.{Graph}
use Rattle.lift_rounds.specs.Known.{Known}
use Rattle.lifted_parts.specs.Built.{number_of, vertex_of}

-- a vertex that was found, which is this one of the function
pub record Stands (g : Graph) (known : List (Known Predicate)) (address number : ℕ) (x : Vertex) : Type 0 where
  pub vertex : ℕ
  pub below : vertex < length g.keys.items
  pub address_is : address_at g.keys.items vertex ≡ address
  pub number_is : number_of g vertex ≡ number
  pub same : vertex_of g known vertex ≡ x

-- each vertex that was found stands at its address and number, and no other does
pub record AreFound (image : Image) (g : Graph) (known : List (Known Predicate)) (f : Function) : Type 0 where
  pub there : (v : ℕ) → v < length g.keys.items → vertex_at (x86 image) f (address_at g.keys.items v) (number_of g v) ≡ Some (vertex_of g known v)
  pub only : (address number : ℕ) (x : Vertex) → vertex_at (x86 image) f address number ≡ Some x → Stands g known address number x
