-- The levels that the nodes of a forest lead to, and what they weigh.
use Rattle.std.proofs.Common.{◌≡◌, ℕ, ◌+◌, ◌≤◌, List, [], ◌∷◌, ◌++◌, length, append-nil, append_assoc, Option, refl, sym, ap, ◌∙◌, arith}
use Rattle.std.specs.Int.{from_bool}
use Rattle.sym_terms.specs.Plain.{PlainSum}
use Rattle.mem_forest.specs.Plain.{PlainForest, none, cell, PlainNode, cells, count}
use Rattle.mem_forest.specs.Search.{is_here, count_at}
use Rattle.graph_builder.specs.Partial.{with_children, forest_of_levels}
use Rattle.graph_builder.specs.Limits.{count_of}
use Rattle.graph_builder.specs.Levels.{with_node}

-- the nodes of a forest's first level
abbrev pub nodes_of : PlainForest → List PlainNode
nodes_of none = []
nodes_of (cell ns b v under rest) = record { names = ns; bytes = b; value = v; under = under } ∷ nodes_of rest

pub cells_nodes : (f : PlainForest) → cells (nodes_of f) ≡ f
cells_nodes none = refl
cells_nodes (cell ns b v under rest) = ap (cell ns b v under) (cells_nodes rest)

-- the nodes of the first of levels, with those below it closed
abbrev pub merged : List (List PlainNode) → List PlainNode
merged [] = []
merged (nodes ∷ []) = nodes
merged (nodes ∷ next ∷ more) = with_children nodes (forest_of_levels (next ∷ more))

pub nested_merged : (levels : List (List PlainNode)) → forest_of_levels levels ≡ cells (merged levels)
nested_merged [] = refl
nested_merged (nodes ∷ []) = refl
nested_merged (nodes ∷ next ∷ more) = refl

-- a node at a level can stand after the nodes there, and those below are closed
pub with_node_at : (above levels : List (List PlainNode)) (c : PlainNode) → with_node (length above) c (above ++ levels) ≡ above ++ (merged levels ++ c ∷ []) ∷ []
with_node_at [] [] c = refl
with_node_at [] (nodes ∷ []) c = refl
with_node_at [] (nodes ∷ next ∷ more) c = refl
with_node_at (nodes ∷ above) levels c = ap (λ l. nodes ∷ l) (with_node_at above levels c)

-- a node with none under it
abbrev pub leaf : List PlainSum → ℕ → Option PlainSum → PlainNode
leaf ns b v = record { names = ns; bytes = b; value = v; under = none }

-- the levels from one on after the nodes of a forest there
abbrev pub levels_after : PlainForest → List (List PlainNode) → List (List PlainNode)
levels_after none levels = levels
levels_after (cell ns b v under rest) levels = levels_after rest ((merged levels ++ leaf ns b v ∷ []) ∷ levels_after under [])

over_last : (xs : List PlainNode) (c : PlainNode) (f : PlainForest) → with_children (xs ++ c ∷ []) f ≡ xs ++ record { names = c.names; bytes = c.bytes; value = c.value; under = f } ∷ []
over_last [] c f = refl
over_last (x ∷ []) c f = refl
over_last (x ∷ y ∷ xs) c f = ap (λ l. x ∷ l) (over_last (y ∷ xs) c f)

-- a node at the end, and levels below it that close to the nodes under it
closes : (xs : List PlainNode) (c : PlainNode) (levels : List (List PlainNode)) → c.under ≡ none → merged ((xs ++ c ∷ []) ∷ levels) ≡ xs ++ record { names = c.names; bytes = c.bytes; value = c.value; under = forest_of_levels levels } ∷ []
closes xs c [] e = ap (λ u. xs ++ record { names = c.names; bytes = c.bytes; value = c.value; under = u } ∷ []) e
closes xs c (next ∷ more) e = over_last xs c (forest_of_levels (next ∷ more))

-- a node and the levels of those under it close to the node with them
closed_by : (levels : List (List PlainNode)) (ns : List PlainSum) (b : ℕ) (v : Option PlainSum) (under : PlainForest) → merged (levels_after under []) ≡ nodes_of under
    → merged ((merged levels ++ leaf ns b v ∷ []) ∷ levels_after under []) ≡ merged levels ++ record { names = ns; bytes = b; value = v; under = under } ∷ []
closed_by levels ns b v under e =
    let below : forest_of_levels (levels_after under []) ≡ under = nested_merged (levels_after under []) ∙ ap cells e ∙ cells_nodes under in
    closes (merged levels) (leaf ns b v) (levels_after under []) refl
    ∙ ap (λ u. merged levels ++ record { names = ns; bytes = b; value = v; under = u } ∷ []) below

-- closed, those levels have the nodes of the forest after those before
pub merged_after : (f : PlainForest) (levels : List (List PlainNode)) → merged (levels_after f levels) ≡ merged levels ++ nodes_of f
merged_after none levels = sym (append-nil (merged levels))
merged_after (cell ns b v under rest) levels =
    merged_after rest ((merged levels ++ leaf ns b v ∷ []) ∷ levels_after under [])
    ∙ ap (λ l. l ++ nodes_of rest) (closed_by levels ns b v under (merged_after under []))
    ∙ append_assoc (merged levels) (record { names = ns; bytes = b; value = v; under = under } ∷ []) (nodes_of rest)

pub closed_leaf : (levels : List (List PlainNode)) (ns : List PlainSum) (b : ℕ) (v : Option PlainSum) (under : PlainForest)
    → merged ((merged levels ++ leaf ns b v ∷ []) ∷ levels_after under []) ≡ merged levels ++ record { names = ns; bytes = b; value = v; under = under } ∷ []
closed_leaf levels ns b v under = closed_by levels ns b v under (merged_after under [])

-- the levels of a forest's own nodes are closed to the forest
pub nested_after : (f : PlainForest) → forest_of_levels (levels_after f []) ≡ f
nested_after f = nested_merged (levels_after f []) ∙ ap cells (merged_after f []) ∙ cells_nodes f

-- ---- what nodes weigh

-- the weight of a forest's nodes, each by its names and size
abbrev pub weigh : (List PlainSum → ℕ → ℕ) → PlainForest → ℕ
weigh w none = 0
weigh w (cell ns b v under rest) = weigh w under + w ns b + weigh w rest

abbrev pub weigh_all : (List PlainSum → ℕ → ℕ) → List (List PlainNode) → ℕ
weigh_all w [] = 0
weigh_all w (nodes ∷ levels) = weigh w (cells nodes) + weigh_all w levels

-- at one region
abbrev pub at_region : PlainSum → ℕ → List PlainSum → ℕ → ℕ
at_region at bytes ns b = from_bool (is_here at bytes ns b)

pub weigh_holders : (at : PlainSum) (bytes : ℕ) (f : PlainForest) → weigh (at_region at bytes) f ≡ count_at at bytes f
weigh_holders at bytes none = refl
weigh_holders at bytes (cell ns b v under rest) = omega (arith, weigh_holders at bytes under, weigh_holders at bytes rest)

-- one for each
abbrev pub each_one : List PlainSum → ℕ → ℕ
each_one ns b = 1

pub weigh_count : (f : PlainForest) → weigh each_one f ≡ count f
weigh_count none = refl
weigh_count (cell ns b v under rest) = omega (arith, weigh_count under, weigh_count rest)

pub weigh_count_of : (levels : List (List PlainNode)) → weigh_all each_one levels ≡ count_of levels
weigh_count_of [] = refl
weigh_count_of (nodes ∷ levels) = omega (arith, weigh_count (cells nodes), weigh_count_of levels)

module _ (w : List PlainSum → ℕ → ℕ) where
  weigh_push : (xs : List PlainNode) (c : PlainNode) → weigh w (cells (xs ++ c ∷ [])) ≡ weigh w (cells xs) + (weigh w c.under + w c.names c.bytes)
  weigh_push [] c = omega arith
  weigh_push (x ∷ xs) c = omega (arith, weigh_push xs c)

  weigh_over : (xs : List PlainNode) (f : PlainForest) → weigh w (cells (with_children xs f)) ≤ weigh w (cells xs) + weigh w f
  weigh_over [] f = omega arith
  weigh_over (x ∷ []) f = omega arith
  weigh_over (x ∷ y ∷ xs) f = omega (arith, weigh_over (y ∷ xs) f)

  weigh_nested : (levels : List (List PlainNode)) → weigh w (forest_of_levels levels) ≤ weigh_all w levels
  weigh_nested [] = omega arith
  weigh_nested (nodes ∷ []) = omega arith
  weigh_nested (nodes ∷ next ∷ more) = omega (arith, weigh_over nodes (forest_of_levels (next ∷ more)), weigh_nested (next ∷ more))

  weigh_merged : (levels : List (List PlainNode)) → weigh w (cells (merged levels)) ≤ weigh_all w levels
  weigh_merged levels = omega (arith, ap (weigh w) (nested_merged levels), weigh_nested levels)

  pub weigh_append : (xs ys : List (List PlainNode)) → weigh_all w (xs ++ ys) ≡ weigh_all w xs + weigh_all w ys
  weigh_append [] ys = omega arith
  weigh_append (x ∷ xs) ys = omega (arith, weigh_append xs ys)

  -- a node more
  pub weigh_leaf : (levels : List (List PlainNode)) (ns : List PlainSum) (b : ℕ) (v : Option PlainSum) → weigh w (cells (merged levels ++ leaf ns b v ∷ [])) ≤ weigh_all w levels + w ns b
  weigh_leaf levels ns b v = omega (arith, weigh_push (merged levels) (leaf ns b v), weigh_merged levels)

  -- the nodes of a forest more
  pub weigh_after : (f : PlainForest) (levels : List (List PlainNode)) → weigh_all w (levels_after f levels) ≤ weigh_all w levels + weigh w f
  weigh_after none levels = omega arith
  weigh_after (cell ns b v under rest) levels =
      omega (arith, weigh_after rest ((merged levels ++ leaf ns b v ∷ []) ∷ levels_after under []), weigh_after under [], weigh_leaf levels ns b v)
