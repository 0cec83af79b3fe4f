-- Where a node stands in a forest.
use Rattle.std.specs.Prelude.{ℕ, Option, List, [], ◌∷◌}
use Rattle.std.specs.Option.{option_and_then}
use Rattle.sym_terms.specs.Plain.{PlainSum}
use Rattle.mem_forest.specs.Plain.{PlainForest, PlainNode}
pub use Rattle.mem_forest.specs.Holders.{comes_first, sibling, holds_node}

-- the node with this first name and size whose parents, from the top, have those
abbrev pub node_under : List (PlainSum × ℕ) → PlainSum → ℕ → PlainForest → Option PlainNode
node_under [] at bytes f = sibling at bytes f
node_under (k ∷ ks) at bytes f = option_and_then (λ c. node_under ks at bytes c.under) (sibling k.0 k.1 f)
