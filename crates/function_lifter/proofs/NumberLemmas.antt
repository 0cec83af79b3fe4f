-- The number of a vertex among those of its address, by its key.
use Rattle.std.proofs.Common.{◌≡◌, ◌<◌, ℕ, length, get_or, ap, sym, ◌∙◌}
use Rattle.lift_graph.specs.Graph.{address_at, tag_at}
use Rattle.lift_graph.specs.Sites.{vertices_at}
use Rattle.lift_graph.specs.declared.graph.Key.{Key}
use Rattle.lift_graph.specs.declared.graph.Graph.{Graph}
use Rattle.lift_graph.proofs.IndexLemmas.{address_at_read, tag_at_read}
use Rattle.lifted_parts.specs.Built.{number_of}

-- the number of a vertex whose key was read
pub number_of_read : (g : Graph) (v : ℕ) (k : Key) → v < length g.keys.items → k ≡ get_or g.keys.items v k → length (vertices_at g.index k.address k.tag) ≡ number_of g v
number_of_read g v k l e =
    ap (λ a. length (vertices_at g.index a k.tag)) (sym (address_at_read g.keys.items v k l e)) ∙ ap (λ t. length (vertices_at g.index (address_at g.keys.items v) t)) (sym (tag_at_read g.keys.items v k l e))
