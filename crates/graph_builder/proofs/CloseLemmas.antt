-- Levels that are closed from the last one on, and registers that are set from the last one on.
use Rattle.std.proofs.Common.{◌≡◌, ℕ, zero, suc, ◌≤◌, Option, List, [], ◌∷◌, ◌++◌, length, take, drop, refl, sym, ap, ◌∙◌, slice_set}
use Rattle.std.proofs.lemmas.List.{drop-append-le, take-append-le}
use Rattle.sym_terms.specs.Plain.{PlainSum}
use Rattle.mem_forest.specs.Plain.{PlainForest, PlainNode, cells}
use Rattle.graph_builder.specs.Partial.{with_children, forest_of_levels, filled}
use Rattle.graph_builder.specs.Levels.{fold_levels, closed_level, with_node}
use Rattle.predicates.specs.Entry.{entry_registers}

-- the last node of a level takes the forest
pub over_push : (level : List PlainNode) (c : PlainNode) (f : PlainForest)
    → with_children (level ++ c ∷ []) f ≡ level ++ (record { names = c.names; bytes = c.bytes; value = c.value; under = f }) ∷ []
over_push [] c f = refl
over_push (d ∷ []) c f = refl
over_push (d ∷ e ∷ ds) c f = ap (λ ns. d ∷ ns) (over_push (e ∷ ds) c f)

closed_push : (levels : List (List PlainNode)) (level nodes : List PlainNode)
    → fold_levels (levels ++ level ∷ []) nodes ≡ fold_levels levels (with_children level (cells nodes))
closed_push [] level nodes = refl
closed_push (l ∷ ls) level nodes = ap (λ ns. with_children l (cells ns)) (closed_push ls level nodes)

-- one level more is closed
pub closed_step : (depth : ℕ) (all levels : List (List PlainNode)) (level nodes under : List PlainNode) → all ≡ levels ++ level ∷ [] → depth ≤ length levels
    → under ≡ with_children level (cells nodes) → fold_levels (drop depth levels) under ≡ fold_levels (drop depth all) nodes
closed_step depth all levels level nodes under e h u =
    ap (fold_levels (drop depth levels)) u
    ∙ sym (closed_push (drop depth levels) level nodes)
    ∙ ap (λ ls. fold_levels ls nodes) (sym (drop-append-le depth levels (level ∷ []) h))
    ∙ ap (λ ls. fold_levels (drop depth ls) nodes) (sym e)

pub left_step : (depth : ℕ) (all levels : List (List PlainNode)) (level : List PlainNode) → all ≡ levels ++ level ∷ [] → depth ≤ length levels
    → take depth levels ≡ take depth all
left_step depth all levels level e h = sym (take-append-le depth levels (level ∷ []) h) ∙ ap (take depth) (sym e)

-- the levels' forest is that of the levels closed into one
pub nested_push : (levels : List (List PlainNode)) (level : List PlainNode) → forest_of_levels (levels ++ level ∷ []) ≡ cells (fold_levels levels level)
nested_push [] level = refl
nested_push (l ∷ []) level = refl
nested_push (l ∷ m ∷ ms) level = ap (λ f. cells (with_children l f)) (nested_push (m ∷ ms) level)

closed_level_push : (levels : List (List PlainNode)) (level : List PlainNode) → closed_level (levels ++ level ∷ []) ≡ fold_levels levels level
closed_level_push [] level = refl
closed_level_push (l ∷ []) level = refl
closed_level_push (l ∷ m ∷ ms) level = ap (with_children l) (nested_push (m ∷ ms) level)

-- the levels from a number on, closed into one
pub level_closed : (depth : ℕ) (all levels : List (List PlainNode)) (level nodes : List PlainNode) → all ≡ levels ++ level ∷ [] → depth ≤ length levels
    → nodes ≡ fold_levels (drop depth levels) level → nodes ≡ closed_level (drop depth all)
level_closed depth all levels level nodes e h n =
    n
    ∙ sym (closed_level_push (drop depth levels) level)
    ∙ ap closed_level (sym (drop-append-le depth levels (level ∷ []) h))
    ∙ ap (λ ls. closed_level (drop depth ls)) (sym e)

-- a node more can stand after the nodes of its level, in the levels up to it
pub node_step : (level : ℕ) (c : PlainNode) (levels : List (List PlainNode))
    → with_node level c levels ≡ take level levels ++ (closed_level (drop level levels) ++ c ∷ []) ∷ []
node_step zero c [] = refl
node_step (suc level) c [] = refl
node_step zero c (n ∷ []) = refl
node_step zero c (n ∷ m ∷ ms) = refl
node_step (suc level) c (n ∷ ns) = ap (λ ls. n ∷ ls) (node_step level c ns)

-- registers with those that are given, the last one first
abbrev pub filled_over : List (ℕ × Option PlainSum) → List (Option PlainSum) → List (Option PlainSum)
filled_over [] regs = regs
filled_over (given ∷ more) regs = slice_set (filled_over more regs) given.0 given.1

filled_push : (given : List (ℕ × Option PlainSum)) (g : ℕ × Option PlainSum) (regs : List (Option PlainSum))
    → filled_over (given ++ g ∷ []) regs ≡ filled_over given (slice_set regs g.0 g.1)
filled_push [] g regs = refl
filled_push (h ∷ hs) g regs = ap (λ rs. slice_set rs h.0 h.1) (filled_push hs g regs)

-- the last register that is given is set
pub filled_step : (all given : List (ℕ × Option PlainSum)) (g : ℕ × Option PlainSum) (regs set : List (Option PlainSum)) → all ≡ given ++ g ∷ []
    → set ≡ slice_set regs g.0 g.1 → filled_over given set ≡ filled_over all regs
filled_step all given g regs set e s = ap (filled_over given) s ∙ sym (filled_push given g regs) ∙ ap (λ gs. filled_over gs regs) (sym e)

-- all registers that are given are set over the entry symbols
pub filled_entry : (given : List (ℕ × Option PlainSum)) → filled_over given (entry_registers 16) ≡ filled given
filled_entry [] = refl
filled_entry (g ∷ gs) = ap (λ rs. slice_set rs g.0 g.1) (filled_entry gs)
