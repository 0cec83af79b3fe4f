-- The lines of a forest's nodes, one after another.
use Rattle.std.proofs.Common.{◌≡◌, ℕ, suc, ◌+◌, ◌≤◌, true, ◌&&◌, not, List, [], ◌∷◌, ◌++◌, length, length-append, append-nil, append_assoc, Option, refl, sym, ap, ap₂, ◌∙◌, arith}
use Rattle.std.specs.Prelude.{◌==◌, nat_lt, nat_le}
use Rattle.std.specs.List.{list_any}
use Rattle.std.specs.Int.{from_bool}
use Rattle.std.specs.declared.result.Result.TheVariants.{Ok}
use Rattle.std.proofs.lemmas.Bool.{and_parts, and_from, not_from_false, le-leb, lt-ltb, eq-eqb}
use Rattle.sym_terms.specs.Plain.{PlainSum}
use Rattle.mem_forest.specs.Plain.{PlainForest, none, cell, PlainNode, cells}
use Rattle.mem_forest.specs.Search.{has_name}
use Rattle.mem_forest.specs.Shape.{is_size, ascending, are_names, is_formed, precedes, shaped, IsForest}
use Rattle.predicates.specs.declared.bound.FlagFact.{FlagFact}
use Rattle.predicates.specs.declared.bound.Bound.{Bound}
use Rattle.graph_data.specs.declared.graph.Site.{Site}
use Rattle.graph_data.specs.declared.graph.Function.{Function}
use Rattle.graph_data.specs.Parts.{Each}
use Rattle.graph_lines.specs.declared.line.Line.{Line}
use Rattle.graph_lines.specs.declared.line.Line.TheVariants as line
use Rattle.graph_lines.specs.declared.line.VertexLine.TheVariants as in_vertex
use Rattle.graph_builder.specs.declared.builder.Position.TheVariants as position
use Rattle.graph_builder.specs.declared.builder.Builder.{Builder}
use Rattle.graph_builder.specs.Lines.{node_lines}
use Rattle.graph_builder.specs.Order.{extends_order, level_at, collides, node_fits}
use Rattle.graph_builder.specs.Limits.{count_of}
use Rattle.graph_builder.proofs.BuildsLists.{each_from}
use Rattle.graph_builder.specs.Building.{built_from}
use Rattle.graph_builder.proofs.BuildsSteps.{step_then, steps_then}
use Rattle.graph_builder.proofs.BuildsForest.{merged, with_node_at, leaf, levels_after, closed_leaf, weigh, weigh_all, at_region, weigh_holders, each_one, weigh_count, weigh_count_of, weigh_append, weigh_leaf, weigh_after}
use Rattle.graph_builder.proofs.BuildsCollisions.{each_has, collides_nowhere, before_node, extends_level, Comes, comes_first, comes_next}

-- what levels and the nodes to come weigh together is within a number
abbrev Weighs : (List PlainSum → ℕ → ℕ) → ℕ → List (List PlainNode) → PlainForest → Type 0
Weighs w most levels f = weigh_all w levels + weigh w f ≤ most

-- the levels after a node's line
abbrev with_leaf : List (List PlainNode) → List PlainSum → ℕ → Option PlainSum → List PlainNode
with_leaf levels ns b v = merged levels ++ leaf ns b v ∷ []

under_weighs : (w : List PlainSum → ℕ → ℕ) (most : ℕ) (above levels : List (List PlainNode)) (ns : List PlainSum) (b : ℕ) (v : Option PlainSum) (under rest : PlainForest)
    → Weighs w most (above ++ levels) (cell ns b v under rest) → Weighs w most ((above ++ with_leaf levels ns b v ∷ []) ++ []) under
under_weighs w most above levels ns b v under rest h =
    omega (arith, h, weigh_append w above levels, weigh_append w (above ++ with_leaf levels ns b v ∷ []) [], weigh_append w above (with_leaf levels ns b v ∷ []), weigh_leaf w levels ns b v)

rest_weighs : (w : List PlainSum → ℕ → ℕ) (most : ℕ) (above levels : List (List PlainNode)) (ns : List PlainSum) (b : ℕ) (v : Option PlainSum) (under rest : PlainForest)
    → Weighs w most (above ++ levels) (cell ns b v under rest) → Weighs w most (above ++ with_leaf levels ns b v ∷ levels_after under []) rest
rest_weighs w most above levels ns b v under rest h =
    omega (arith, h, weigh_append w above levels, weigh_append w above (with_leaf levels ns b v ∷ levels_after under []), weigh_leaf w levels ns b v, weigh_after w under [])

-- what makes the nodes of a forest ones that may come after levels
record Come (above levels : List (List PlainNode)) (f : PlainForest) : Type 0 where
  formed : shaped f ≡ true
  order : Comes (merged levels) f
  single : (at : PlainSum) (bytes : ℕ) → Weighs (at_region at bytes) 1 (above ++ levels) f
  few : Weighs each_one 64 (above ++ levels) f

-- what the form of a node's names says
pub record Named (ns : List PlainSum) (b : ℕ) (under rest : PlainForest) : Type 0 where
  pub size : is_size b ≡ true
  pub some : nat_le 1 (length ns) ≡ true
  pub eight : nat_le (length ns) 8 ≡ true
  pub names : ascending ns ≡ true
  pub next : precedes ns b rest ≡ true
  pub below : shaped under ≡ true
  pub beside : shaped rest ≡ true

pub named : (ns : List PlainSum) (b : ℕ) (v : Option PlainSum) (under rest : PlainForest) → shaped (cell ns b v under rest) ≡ true → Named ns b under rest
named ns b v under rest e =
    let parts = and_parts (is_formed ns b && precedes ns b rest) (shaped under && shaped rest) e in
    let own = and_parts (is_formed ns b) (precedes ns b rest) parts.0 in
    let others = and_parts (shaped under) (shaped rest) parts.1 in
    let form = and_parts (is_size b) (are_names ns) own.0 in
    let number = and_parts (nat_le 1 (length ns)) (nat_le (length ns) 8 && ascending ns) form.1 in
    let eight = and_parts (nat_le (length ns) 8) (ascending ns) number.1 in
    record { size = form.0; some = number.0; eight = eight.0; names = eight.1; next = own.1; below = others.0; beside = others.1 }

under_come : (above levels : List (List PlainNode)) (ns : List PlainSum) (b : ℕ) (v : Option PlainSum) (under rest : PlainForest)
    → Come above levels (cell ns b v under rest) → Come (above ++ with_leaf levels ns b v ∷ []) [] under
under_come above levels ns b v under rest h = record {
  formed = (named ns b v under rest h.formed).below;
  order = comes_first under;
  single = λ at bytes. under_weighs (at_region at bytes) 1 above levels ns b v under rest (h.single at bytes);
  few = under_weighs each_one 64 above levels ns b v under rest h.few;
}

rest_come : (above levels : List (List PlainNode)) (ns : List PlainSum) (b : ℕ) (v : Option PlainSum) (under rest : PlainForest)
    → Come above levels (cell ns b v under rest) → Come above (with_leaf levels ns b v ∷ levels_after under []) rest
rest_come above levels ns b v under rest h = record {
  formed = (named ns b v under rest h.formed).beside;
  order =
      rw (closed_leaf levels ns b v under)
      (comes_next (merged levels) (record { names = ns; bytes = b; value = v; under = under }) rest (named ns b v under rest h.formed).next);
  single = λ at bytes. rest_weighs (at_region at bytes) 1 above levels ns b v under rest (h.single at bytes);
  few = rest_weighs each_one 64 above levels ns b v under rest h.few;
}

-- a node that may come collides with none, and there is room for it
none_there : (above levels : List (List PlainNode)) (ns : List PlainSum) (b : ℕ) (v : Option PlainSum) (under rest : PlainForest)
    → Come above levels (cell ns b v under rest) → Each (λ n. weigh_all (at_region n b) (above ++ levels) ≡ 0) ns
none_there above levels ns b v under rest h =
    each_from (λ n. has_name n ns ≡ true) (λ n. weigh_all (at_region n b) (above ++ levels) ≡ 0) by ns (each_has ns)
  where
    by : (n : PlainSum) → has_name n ns ≡ true → weigh_all (at_region n b) (above ++ levels) ≡ 0
    by n e =
        let here : from_bool ((b == b) && has_name n ns) ≡ 1 = ap from_bool (and_from (b == b) (has_name n ns) (eq-eqb b b refl) e) in
        omega (arith, here, h.single n b)

in_level : (above levels : List (List PlainNode)) (ns : List PlainSum) (b : ℕ) (v : Option PlainSum) (under rest : PlainForest)
    → Come above levels (cell ns b v under rest) → node_fits (length above) (leaf ns b v) (above ++ levels) ≡ true
in_level above levels ns b v under rest h =
    and_from (extends_order before_node (level_at (length above) (above ++ levels)) (leaf ns b v)) (not (list_any (λ nodes. collides (leaf ns b v) (cells nodes)) (above ++ levels)))
    (extends_level above levels (leaf ns b v) ∙ h.order)
    (not_from_false (list_any (λ nodes. collides (leaf ns b v) (cells nodes)) (above ++ levels)) (collides_nowhere (leaf ns b v) (above ++ levels) (none_there above levels ns b v under rest h)))

has_room : (above levels : List (List PlainNode)) (ns : List PlainSum) (b : ℕ) (v : Option PlainSum) (under rest : PlainForest)
    → Come above levels (cell ns b v under rest) → nat_lt (count_of (above ++ levels)) 64 ≡ true
has_room above levels ns b v under rest h = lt-ltb (count_of (above ++ levels)) 64 (omega (arith, h.few, weigh_count_of (above ++ levels)))

-- ---- the lines

module _ (functions : List Function) (fn : Function) (s : Site) (regs : Option (List (Option PlainSum))) (flags : Option FlagFact) (bounds : List Bound) where
  -- in a vertex with nodes
  abbrev pub at_levels : List (List PlainNode) → Builder
  at_levels levels = record { functions = functions; position = position.Vertex fn s (record { regs = regs; flags = flags; bounds = bounds; levels = levels; out = [] }) }

  node_then : (above levels : List (List PlainNode)) (ns : List PlainSum) (b : ℕ) (v : Option PlainSum) (under rest : PlainForest) (ls : List Line) (r : Builder)
      → Come above levels (cell ns b v under rest) → built_from (at_levels (above ++ with_leaf levels ns b v ∷ [])) ls ≡ Ok r
      → built_from (at_levels (above ++ levels)) (line.InVertex (in_vertex.Node (length above) (leaf ns b v)) ∷ ls) ≡ Ok r
  node_then above levels ns b v under rest ls r h e =
      step_then (at_levels (above ++ levels)) (line.InVertex (in_vertex.Node (length above) (leaf ns b v))) ls r
      (le-leb (length above) (length (above ++ levels)) (omega (arith, length-append above levels)))
      (and_from (ascending ns) (node_fits (length above) (leaf ns b v) (above ++ levels)) (named ns b v under rest h.formed).names (in_level above levels ns b v under rest h))
      (and_from (nat_le (length ns) 8) (nat_lt (count_of (above ++ levels)) 64) (named ns b v under rest h.formed).eight (has_room above levels ns b v under rest h))
      (ap (λ l. built_from (at_levels l) ls) (with_node_at above levels (leaf ns b v)) ∙ e)

  nodes_then : (f : PlainForest) (above levels : List (List PlainNode)) → Come above levels f
      → built_from (at_levels (above ++ levels)) (node_lines (length above) f) ≡ Ok (at_levels (above ++ levels_after f levels))
  nodes_then none above levels h = refl
  nodes_then (cell ns b v under rest) above levels h =
      let next : List PlainNode = with_leaf levels ns b v in
      let more : length (above ++ next ∷ []) ≡ suc (length above) = omega (arith, length-append above (next ∷ [])) in
      let inner = nodes_then under (above ++ next ∷ []) [] (under_come above levels ns b v under rest h) in
      let first : built_from (at_levels (above ++ next ∷ [])) (node_lines (suc (length above)) under) ≡ Ok (at_levels (above ++ next ∷ levels_after under [])) =
      ap₂ (λ l n. built_from (at_levels l) (node_lines n under)) (sym (append-nil (above ++ next ∷ []))) (sym more) ∙ inner
      ∙ ap (λ l. Ok (at_levels l)) (append_assoc above (next ∷ []) (levels_after under [])) in
      node_then above levels ns b v under rest (node_lines (suc (length above)) under ++ node_lines (length above) rest) (at_levels (above ++ levels_after (cell ns b v under rest) levels)) h
      (steps_then (at_levels (above ++ next ∷ [])) (node_lines (suc (length above)) under) (node_lines (length above) rest) (at_levels (above ++ next ∷ levels_after under []))
      (at_levels (above ++ levels_after (cell ns b v under rest) levels)) first
      (nodes_then rest above (next ∷ levels_after under []) (rest_come above levels ns b v under rest h)))

  -- the lines of a forest
  pub forest_reads : (f : PlainForest) → IsForest f → built_from (at_levels []) (node_lines 0 f) ≡ Ok (at_levels (levels_after f []))
  forest_reads f h = nodes_then f [] [] (record {
    formed = h.in_form;
    order = comes_first f;
    single = λ at bytes. omega (arith, h.single at bytes, weigh_holders at bytes f);
    few = omega (arith, h.few, weigh_count f);
  })
