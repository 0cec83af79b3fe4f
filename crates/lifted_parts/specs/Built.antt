-- The function that is built of what was found and is known.
use Rattle.std.specs.Prelude.{◌≡◌, ◌<◌, ◌↔◌, ℕ, List, map, length, Option, Some, None}
use Rattle.std.specs.List.{Contains}
use Rattle.predicates.specs.Predicate.{Predicate}
use Rattle.graph_data.specs.Parts.{Ascends}
use Rattle.graph_data.specs.declared.graph.Vertex.{Vertex}
use Rattle.graph_data.specs.declared.graph.Site.{Site}
use Rattle.graph_data.specs.declared.graph.Function.{Function}
use Rattle.lift_graph.specs.Rows.{items_at}
use Rattle.lift_graph.specs.Graph.{address_at, tag_at}
use Rattle.lift_graph.specs.Sites.{vertices_at}
use Rattle.lift_graph.specs.declared.graph.Graph.{Graph}
use Rattle.lift_rounds.specs.Known.{Known, pred_at}
use Rattle.site_lines.specs.Subject.{Subject, frame_above, frame_below}
use Rattle.site_lines.specs.Lines.{lines_at}
use Rattle.image_steps.specs.Shaped.{nothing}
use Rattle.image_steps.specs.Meant.{known_among}

-- the number of a vertex at its address: how many stand there with a lower tag
abbrev pub number_of : Graph → ℕ → ℕ
number_of g v = length (vertices_at g.index (address_at g.keys.items v) (tag_at g.keys.items v))

-- an edge to a vertex
abbrev pub edge_to : Graph → ℕ → ℕ × ℕ
edge_to g v = (address_at g.keys.items v, number_of g v)

-- what is known at a vertex, nothing where that isn't known yet
abbrev pub known_or_nothing : Option Predicate → Predicate
known_or_nothing None = nothing
known_or_nothing (Some p) = p

-- a vertex with its edges
abbrev pub vertex_of : Graph → List (Known Predicate) → ℕ → Vertex
vertex_of g known v = record { pred = known_or_nothing (pred_at known v); out = map (edge_to g) (items_at g.targets.items v) }

-- the vertices at an address, by ascending tag
abbrev pub here : Graph → ℕ → List ℕ
here g address = vertices_at g.index address g.tags

-- what is known at an address
abbrev pub preds_here : Graph → List (Known Predicate) → ℕ → List Predicate
preds_here g known address = known_among (map (pred_at known) (here g address))

-- the site at an address, with its lines and its vertices
abbrev pub site_of : Subject → Graph → List (Known Predicate) → ℕ → Site
site_of s g known address =
    let lines = lines_at s address (preds_here g known address) in
    record {
      addr = address;
      kind = lines.kind;
      seps = lines.seps;
      fork = None;
      keeps = lines.keeps;
      vertices = map (vertex_of g known) (here g address);
    }

-- the addresses of the vertices, ascending, each once
pub record AreAddresses (g : Graph) (addresses : List ℕ) : Type 0 where
  pub ascend : Ascends addresses
  pub exact : (a : ℕ) → Contains addresses a ↔ ((v : ℕ) × (v < length g.keys.items) × (address_at g.keys.items v ≡ a))

-- the function has a site for each address
pub record IsBuilt (s : Subject) (g : Graph) (known : List (Known Predicate)) (entry : ℕ) (f : Function) : Type 0 where
  pub entry_is : f.entry ≡ entry
  pub below : f.below ≡ frame_below
  pub above : f.above ≡ frame_above
  pub unrefused : f.refused ≡ None
  pub addresses : List ℕ
  pub all : AreAddresses g addresses
  pub sites : f.sites ≡ map (site_of s g known) addresses
