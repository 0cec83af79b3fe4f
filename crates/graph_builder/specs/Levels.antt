-- Levels of nodes that are closed into the first of them.
use Rattle.std.specs.Prelude.{ℕ, zero, suc, List, [], ◌∷◌, ◌++◌}
use Rattle.mem_forest.specs.Plain.{PlainNode, cells}
use Rattle.graph_builder.specs.Partial.{with_children, forest_of_levels}

-- these nodes under the last node of the lowest level, that level under the last node of the one
-- above, and so on
abbrev pub fold_levels : List (List PlainNode) → List PlainNode → List PlainNode
fold_levels [] nodes = nodes
fold_levels (level ∷ levels) nodes = with_children level (cells (fold_levels levels nodes))

-- levels closed into the first of them
abbrev pub closed_level : List (List PlainNode) → List PlainNode
closed_level [] = []
closed_level (nodes ∷ []) = nodes
closed_level (nodes ∷ next ∷ more) = with_children nodes (forest_of_levels (next ∷ more))

-- the levels with a node more at the end of its level; the levels below it are closed
abbrev pub with_node : ℕ → PlainNode → List (List PlainNode) → List (List PlainNode)
with_node level c [] = (c ∷ []) ∷ []
with_node zero c (nodes ∷ []) = (nodes ++ c ∷ []) ∷ []
with_node zero c (nodes ∷ next ∷ more) =
    (with_children nodes (forest_of_levels (next ∷ more)) ++ c ∷ []) ∷ []
with_node (suc level) c (nodes ∷ levels) = nodes ∷ with_node level c levels
