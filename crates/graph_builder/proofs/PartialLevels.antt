-- A node after the last of its level, in the forest of levels: the lines, the number of nodes, and the nodes at a region.
use Rattle.std.proofs.Common.{◌≡◌, ℕ, zero, suc, ◌+◌, ◌≤◌, Bool, true, false, ◌&&◌, ◌||◌, List, [], ◌∷◌, ◌++◌, length, refl, sym, ap, ◌∙◌, inl, inr, arith, append-nil, append_assoc}
use Rattle.std.specs.Prelude.{◌==◌}
use Rattle.std.specs.Int.{from_bool}
use Rattle.std.specs.Ordering.{is_eq}
use Rattle.std.specs.List.{list_any}
use Rattle.std.proofs.lemmas.Bool.{and_parts, and_from, or_parts, or_left, or_right, or_cases, cases_Bool}
use Rattle.sym_terms.specs.Plain.{PlainSum}
use Rattle.sym_terms.specs.Order.{sum_cmp}
use Rattle.mem_forest.specs.Plain.{PlainForest, none, cell, PlainNode, cells, count}
use Rattle.mem_forest.specs.Search.{has_name, is_here, count_at}
use Rattle.predicates.proofs.TermLemmas.{same_from}
use Rattle.graph_data.specs.Parts.{Each}
use Rattle.graph_lines.specs.declared.line.Line.{Line}
use Rattle.graph_lines.specs.declared.line.Line.TheVariants as line
use Rattle.graph_lines.specs.declared.line.VertexLine.TheVariants as in_vertex
use Rattle.graph_builder.specs.Lines.{node_lines}
use Rattle.graph_builder.specs.Partial.{with_children, forest_of_levels}
use Rattle.graph_builder.specs.Order.{collides}
use Rattle.graph_builder.specs.Limits.{count_of}
use Rattle.graph_builder.specs.Levels.{with_node}
use Rattle.graph_builder.proofs.PartialInvariant.{IsLevel}

-- ---- levels as forests

-- a node with nothing under it
pub bare : (c : PlainNode) → c.under ≡ none → record { names = c.names; bytes = c.bytes; value = c.value; under = none } ≡ c
bare c e = let back = sym e in λ i. record { names = c.names; bytes = c.bytes; value = c.value; under = back i }

over_none : (l : List PlainNode) → IsLevel l → with_children l none ≡ l
over_none [] h = absurd h
over_none (c ∷ []) h = ap (λ d. d ∷ []) (bare c h)
over_none (c ∷ d ∷ cs) h = ap (λ r. c ∷ r) (over_none (d ∷ cs) h)

-- the rest can stand under the first level's last node
pub nested_cons : (l : List PlainNode) (ls : List (List PlainNode)) → IsLevel l → forest_of_levels (l ∷ ls) ≡ cells (with_children l (forest_of_levels ls))
nested_cons l [] h = ap cells (sym (over_none l h))
nested_cons l (m ∷ ms) h = refl

-- a node more in the first level
pub nested_more : (c : PlainNode) (l : List PlainNode) (ls : List (List PlainNode)) → IsLevel l → forest_of_levels (with_node 0 c (l ∷ ls)) ≡ cells (with_children l (forest_of_levels ls) ++ c ∷ [])
nested_more c l [] h = ap (λ x. cells (x ++ c ∷ [])) (sym (over_none l h))
nested_more c l (m ∷ ms) h = refl

level_more : (l : List PlainNode) (c : PlainNode) → c.under ≡ none → IsLevel (l ++ c ∷ [])
level_more [] c e = e
level_more (d ∷ []) c e = e
level_more (d ∷ b ∷ l) c e = level_more (b ∷ l) c e

-- the levels with a node more are levels
pub levels_after : (level : ℕ) (c : PlainNode) (levels : List (List PlainNode)) → c.under ≡ none → Each IsLevel levels → Each IsLevel (with_node level c levels)
levels_after level c [] e h = (e, tt)
levels_after zero c (l ∷ []) e h = (level_more l c e, tt)
levels_after zero c (l ∷ m ∷ ms) e h = (level_more (with_children l (forest_of_levels (m ∷ ms))) c e, tt)
levels_after (suc k) c (l ∷ ls) e h = (h.0, levels_after k c ls e h.1)

-- ---- the lines

-- the line of a node
abbrev own_line : ℕ → PlainNode → Line
own_line k c = line.InVertex (in_vertex.Node k (record { names = c.names; bytes = c.bytes; value = c.value; under = none }))

lines_over : (k : ℕ) (l : List PlainNode) (f : PlainForest) → IsLevel l → node_lines k (cells (with_children l f)) ≡ node_lines k (cells l) ++ node_lines (suc k) f
lines_over k [] f h = absurd h
lines_over k (c ∷ []) f h =
    ap (λ r. own_line k c ∷ r) (append-nil (node_lines (suc k) f))
    ∙ ap (λ u. (own_line k c ∷ (node_lines (suc k) u ++ [])) ++ node_lines (suc k) f) (sym h)
lines_over k (c ∷ d ∷ cs) f h =
    ap (λ r. own_line k c ∷ (node_lines (suc k) c.under ++ r)) (lines_over k (d ∷ cs) f h)
    ∙ ap (λ r. own_line k c ∷ r) (sym (append_assoc (node_lines (suc k) c.under) (node_lines k (cells (d ∷ cs))) (node_lines (suc k) f)))

lines_more : (k : ℕ) (l : List PlainNode) (c : PlainNode) → c.under ≡ none → node_lines k (cells (l ++ c ∷ [])) ≡ node_lines k (cells l) ++ line.InVertex (in_vertex.Node k c) ∷ []
lines_more k [] c e = ap (λ u. own_line k c ∷ (node_lines (suc k) u ++ [])) e ∙ ap (λ d. line.InVertex (in_vertex.Node k d) ∷ []) (bare c e)
lines_more k (d ∷ l) c e =
    ap (λ r. own_line k d ∷ (node_lines (suc k) d.under ++ r)) (lines_more k l c e)
    ∙ ap (λ r. own_line k d ∷ r) (sym (append_assoc (node_lines (suc k) d.under) (node_lines k (cells l)) (line.InVertex (in_vertex.Node k c) ∷ [])))

-- the lines of a forest with a node more are those before it and the node's
pub lines_after : (k level n : ℕ) (c : PlainNode) (levels : List (List PlainNode)) → n ≡ k + level → c.under ≡ none → Each IsLevel levels → level ≤ length levels
    → node_lines k (forest_of_levels (with_node level c levels)) ≡ node_lines k (forest_of_levels levels) ++ line.InVertex (in_vertex.Node n c) ∷ []
lines_after k level n c [] is e h le =
    let same : k ≡ n = omega (arith, is, le) in
    lines_more k [] c e ∙ ap (λ m. line.InVertex (in_vertex.Node m c) ∷ []) same
lines_after k zero n c (l ∷ ls) is e h le =
    let same : k ≡ n = omega (arith, is) in
    ap (node_lines k) (nested_more c l ls h.0)
    ∙ lines_more k (with_children l (forest_of_levels ls)) c e
    ∙ ap (λ x. node_lines k x ++ line.InVertex (in_vertex.Node k c) ∷ []) (sym (nested_cons l ls h.0))
    ∙ ap (λ m. node_lines k (forest_of_levels (l ∷ ls)) ++ line.InVertex (in_vertex.Node m c) ∷ []) same
lines_after k (suc j) n c (l ∷ ls) is e h le =
    let next : n ≡ suc k + j = omega (arith, is) in
    ap (node_lines k) (nested_cons l (with_node j c ls) h.0)
    ∙ lines_over k l (forest_of_levels (with_node j c ls)) h.0
    ∙ ap (λ x. node_lines k (cells l) ++ x) (lines_after (suc k) j n c ls next e h.1 (omega (arith, le)))
    ∙ sym (append_assoc (node_lines k (cells l)) (node_lines (suc k) (forest_of_levels ls)) (line.InVertex (in_vertex.Node n c) ∷ []))
    ∙ ap (λ x. x ++ line.InVertex (in_vertex.Node n c) ∷ []) (sym (lines_over k l (forest_of_levels ls) h.0))
    ∙ ap (λ x. node_lines k x ++ line.InVertex (in_vertex.Node n c) ∷ []) (sym (nested_cons l ls h.0))

-- ---- the number of nodes

count_over : (l : List PlainNode) (f : PlainForest) → IsLevel l → count (cells (with_children l f)) ≡ count (cells l) + count f
count_over [] f h = absurd h
count_over (c ∷ []) f h = let e : count c.under ≡ 0 = ap count h in omega (arith, e)
count_over (c ∷ d ∷ cs) f h = omega (arith, count_over (d ∷ cs) f h)

count_more : (l : List PlainNode) (c : PlainNode) → c.under ≡ none → count (cells (l ++ c ∷ [])) ≡ count (cells l) + 1
count_more [] c e = let f : count c.under ≡ 0 = ap count e in omega (arith, f)
count_more (d ∷ l) c e = omega (arith, count_more l c e)

-- the nodes of levels are those of their forest
pub count_levels : (levels : List (List PlainNode)) → Each IsLevel levels → count (forest_of_levels levels) ≡ count_of levels
count_levels [] h = refl
count_levels (l ∷ ls) h = ap count (nested_cons l ls h.0) ∙ count_over l (forest_of_levels ls) h.0 ∙ ap (λ n. count (cells l) + n) (count_levels ls h.1)

pub count_after : (level : ℕ) (c : PlainNode) (levels : List (List PlainNode)) → c.under ≡ none → Each IsLevel levels → level ≤ length levels
    → count (forest_of_levels (with_node level c levels)) ≡ count (forest_of_levels levels) + 1
count_after level c [] e h le = count_more [] c e
count_after zero c (l ∷ ls) e h le =
    ap count (nested_more c l ls h.0) ∙ count_more (with_children l (forest_of_levels ls)) c e ∙ ap (λ f. count f + 1) (sym (nested_cons l ls h.0))
count_after (suc j) c (l ∷ ls) e h le =
    let one = ap count (nested_cons l (with_node j c ls) h.0) ∙ count_over l (forest_of_levels (with_node j c ls)) h.0 in
    let old = ap count (nested_cons l ls h.0) ∙ count_over l (forest_of_levels ls) h.0 in
    omega (arith, one, old, count_after j c ls e h.1 (omega (arith, le)))

-- ---- the nodes at a region

module _ (at : PlainSum) (bytes : ℕ) where
  holders_over : (l : List PlainNode) (f : PlainForest) → IsLevel l → count_at at bytes (cells (with_children l f)) ≡ count_at at bytes (cells l) + count_at at bytes f
  holders_over [] f h = absurd h
  holders_over (c ∷ []) f h = let e : count_at at bytes c.under ≡ 0 = ap (count_at at bytes) h in omega (arith, e)
  holders_over (c ∷ d ∷ cs) f h = omega (arith, holders_over (d ∷ cs) f h)

  holders_more : (l : List PlainNode) (c : PlainNode) → c.under ≡ none → count_at at bytes (cells (l ++ c ∷ [])) ≡ count_at at bytes (cells l) + from_bool (is_here at bytes c.names c.bytes)
  holders_more [] c e = let f : count_at at bytes c.under ≡ 0 = ap (count_at at bytes) e in omega (arith, f)
  holders_more (d ∷ l) c e = omega (arith, holders_more l c e)

  pub holders_after : (level : ℕ) (c : PlainNode) (levels : List (List PlainNode)) → c.under ≡ none → Each IsLevel levels → level ≤ length levels
      → count_at at bytes (forest_of_levels (with_node level c levels)) ≡ count_at at bytes (forest_of_levels levels) + from_bool (is_here at bytes c.names c.bytes)
  holders_after level c [] e h le = holders_more [] c e
  holders_after zero c (l ∷ ls) e h le =
      ap (count_at at bytes) (nested_more c l ls h.0)
      ∙ holders_more (with_children l (forest_of_levels ls)) c e
      ∙ ap (λ f. count_at at bytes f + from_bool (is_here at bytes c.names c.bytes)) (sym (nested_cons l ls h.0))
  holders_after (suc j) c (l ∷ ls) e h le =
      let one = ap (count_at at bytes) (nested_cons l (with_node j c ls) h.0) ∙ holders_over l (forest_of_levels (with_node j c ls)) h.0 in
      let old = ap (count_at at bytes) (nested_cons l ls h.0) ∙ holders_over l (forest_of_levels ls) h.0 in
      omega (arith, one, old, holders_after j c ls e h.1 (omega (arith, le)))

-- a name among names that passes a test
found : (p : PlainSum → Bool) (names : List PlainSum) (at : PlainSum) → has_name at names ≡ true → p at ≡ true → list_any p names ≡ true
found p [] at h e = absurd (cc)
found p (n ∷ ns) at h e =
    elim (or_cases (is_eq (sum_cmp n at)) (has_name at ns) h) as (λ w. list_any p (n ∷ ns) ≡ true) [
      | inl q ↦ or_left (p n) (list_any p ns) (ap p (same_from n at q) ∙ e)
      | inr q ↦ or_right (p n) (list_any p ns) (found p ns at q e)
    ]

-- where a node collides with none of a forest, none of these is at the node's size and one of its names
unmet : (c : PlainNode) (at : PlainSum) (f : PlainForest) → has_name at c.names ≡ true → collides c f ≡ false → count_at at c.bytes f ≡ 0
unmet c at none h e = refl
unmet c at (cell ns b v under rest) h e =
    let own = or_parts ((b == c.bytes) && list_any (λ name. has_name name ns) c.names) (collides c under || collides c rest) e in
    let others = or_parts (collides c under) (collides c rest) own.1 in
    let Goal : Type 0 = count_at at c.bytes (cell ns b v under rest) ≡ 0 in
    elim (cases_Bool (is_here at c.bytes ns b)) as (λ w. Goal) [
      | inl q ↦
          let here = and_parts (b == c.bytes) (has_name at ns) q in
          let met : ((b == c.bytes) && list_any (λ name. has_name name ns) c.names) ≡ true =
          and_from (b == c.bytes) (list_any (λ name. has_name name ns) c.names) here.0 (found (λ name. has_name name ns) c.names at h here.1) in
          let not_met = own.0 in
          absurd (cc)
      | inr q ↦
          let zero_here : from_bool (is_here at c.bytes ns b) ≡ 0 = ap from_bool q in
          omega (arith, zero_here, unmet c at under h others.0, unmet c at rest h others.1)
    ]

-- the same of levels
pub unmet_levels : (c : PlainNode) (at : PlainSum) (levels : List (List PlainNode)) → Each IsLevel levels → has_name at c.names ≡ true
    → list_any (λ nodes. collides c (cells nodes)) levels ≡ false → count_at at c.bytes (forest_of_levels levels) ≡ 0
unmet_levels c at [] l h e = refl
unmet_levels c at (l ∷ ls) are h e =
    let parts = or_parts (collides c (cells l)) (list_any (λ nodes. collides c (cells nodes)) ls) e in
    let old = ap (count_at at c.bytes) (nested_cons l ls are.0) ∙ holders_over at c.bytes l (forest_of_levels ls) are.0 in
    omega (arith, old, unmet c at (cells l) h parts.0, unmet_levels c at ls are.1 h parts.1)
