-- A node that fits after the last of its level: what was a forest stays one.
use Rattle.std.proofs.Common.{◌≡◌, ℕ, zero, suc, ◌<◌, ◌≤◌, Bool, true, false, not, ◌&&◌, List, [], ◌∷◌, ◌++◌, length, refl, sym, ap, ◌∙◌, subst, inl, inr, arith}
use Rattle.std.specs.Prelude.{◌==◌, nat_le}
use Rattle.std.specs.Int.{from_bool}
use Rattle.std.specs.List.{list_any}
use Rattle.std.proofs.lemmas.Bool.{and_parts, and_from, cases_Bool, not-true, eqb-true, le-leb}
use Rattle.sym_terms.specs.Plain.{PlainSum}
use Rattle.mem_forest.specs.Plain.{PlainForest, none, PlainNode, cells}
use Rattle.mem_forest.specs.Search.{has_name, is_here, count_at}
use Rattle.mem_forest.specs.Shape.{is_size, ascending, are_names, is_formed, comes_before, precedes, shaped, IsForest}
use Rattle.graph_data.specs.Parts.{Each}
use Rattle.graph_data.specs.WellFormed.{HasTerms}
use Rattle.graph_lines.specs.Line.{IsNode}
use Rattle.graph_builder.specs.Partial.{with_children, forest_of_levels}
use Rattle.graph_builder.specs.Order.{extends_order, level_at, collides, node_fits}
use Rattle.graph_builder.specs.Limits.{count_of}
use Rattle.graph_builder.specs.Levels.{with_node}
use Rattle.graph_builder.proofs.PartialInvariant.{IsLevel}
use Rattle.graph_builder.proofs.PartialLevels.{nested_cons, nested_more, count_levels, count_after, holders_after, unmet_levels}

-- ---- form and order

-- the order of the nodes of a level
abbrev before : PlainNode → PlainNode → Bool
before d e = comes_before d.names d.bytes e.names e.bytes

precedes_over : (ns : List PlainSum) (b : ℕ) (d : PlainNode) (ds : List PlainNode) (f : PlainForest) → precedes ns b (cells (with_children (d ∷ ds) f)) ≡ comes_before ns b d.names d.bytes
precedes_over ns b d [] f = refl
precedes_over ns b d (e ∷ es) f = refl

extends_over : (l : List PlainNode) (f : PlainForest) (c : PlainNode) → extends_order before (with_children l f) c ≡ extends_order before l c
extends_over [] f c = refl
extends_over (d ∷ []) f c = refl
extends_over (d ∷ e ∷ []) f c = refl
extends_over (d ∷ e ∷ g ∷ l) f c = extends_over (e ∷ g ∷ l) f c

shaped_over : (l : List PlainNode) (f : PlainForest) → IsLevel l → shaped (cells l) ≡ true → shaped f ≡ true → shaped (cells (with_children l f)) ≡ true
shaped_over [] f h e s = absurd h
shaped_over (c ∷ []) f h e s =
    let parts = and_parts (is_formed c.names c.bytes && true) (shaped c.under && true) e in
    and_from (is_formed c.names c.bytes && true) (shaped f && true) parts.0 (and_from (shaped f) true s refl)
shaped_over (c ∷ d ∷ cs) f h e s =
    let parts = and_parts (is_formed c.names c.bytes && before c d) (shaped c.under && shaped (cells (d ∷ cs))) e in
    let own = and_parts (is_formed c.names c.bytes) (before c d) parts.0 in
    let others = and_parts (shaped c.under) (shaped (cells (d ∷ cs))) parts.1 in
    and_from (is_formed c.names c.bytes && precedes c.names c.bytes (cells (with_children (d ∷ cs) f))) (shaped c.under && shaped (cells (with_children (d ∷ cs) f)))
    (and_from (is_formed c.names c.bytes) (precedes c.names c.bytes (cells (with_children (d ∷ cs) f))) own.0 (precedes_over c.names c.bytes d cs f ∙ own.1))
    (and_from (shaped c.under) (shaped (cells (with_children (d ∷ cs) f))) others.0 (shaped_over (d ∷ cs) f h others.1 s))

-- what is in form with its rest is so without, and the rest too
shaped_parts : (l : List PlainNode) (f : PlainForest) → IsLevel l → shaped (cells (with_children l f)) ≡ true → (shaped (cells l) ≡ true) × (shaped f ≡ true)
shaped_parts [] f h e = absurd h
shaped_parts (c ∷ []) f h e =
    let parts = and_parts (is_formed c.names c.bytes && true) (shaped f && true) e in
    let rest = and_parts (shaped f) true parts.1 in
    (and_from (is_formed c.names c.bytes && true) (shaped c.under && true) parts.0 (and_from (shaped c.under) true (ap shaped h) refl), rest.0)
shaped_parts (c ∷ d ∷ cs) f h e =
    let parts = and_parts (is_formed c.names c.bytes && precedes c.names c.bytes (cells (with_children (d ∷ cs) f))) (shaped c.under && shaped (cells (with_children (d ∷ cs) f))) e in
    let own = and_parts (is_formed c.names c.bytes) (precedes c.names c.bytes (cells (with_children (d ∷ cs) f))) parts.0 in
    let others = and_parts (shaped c.under) (shaped (cells (with_children (d ∷ cs) f))) parts.1 in
    let more = shaped_parts (d ∷ cs) f h others.1 in (
      and_from (is_formed c.names c.bytes && before c d) (shaped c.under && shaped (cells (d ∷ cs)))
          (and_from (is_formed c.names c.bytes) (before c d) own.0 (sym (precedes_over c.names c.bytes d cs f) ∙ own.1))
          (and_from (shaped c.under) (shaped (cells (d ∷ cs))) others.0 more.0),
      more.1,
    )

shaped_more : (l : List PlainNode) (c : PlainNode) → c.under ≡ none → is_formed c.names c.bytes ≡ true → shaped (cells l) ≡ true → extends_order before l c ≡ true → shaped (cells (l ++ c ∷ [])) ≡ true
shaped_more [] c u t e f =
    and_from (is_formed c.names c.bytes && true) (shaped c.under && true) (and_from (is_formed c.names c.bytes) true t refl) (and_from (shaped c.under) true (ap shaped u) refl)
shaped_more (d ∷ []) c u t e f =
    let parts = and_parts (is_formed d.names d.bytes && true) (shaped d.under && true) e in
    let own = and_parts (is_formed d.names d.bytes) true parts.0 in
    let others = and_parts (shaped d.under) true parts.1 in
    and_from (is_formed d.names d.bytes && before d c) (shaped d.under && shaped (cells (c ∷ [])))
    (and_from (is_formed d.names d.bytes) (before d c) own.0 f)
    (and_from (shaped d.under) (shaped (cells (c ∷ []))) others.0 (shaped_more [] c u t refl refl))
shaped_more (d ∷ b ∷ l) c u t e f =
    let parts = and_parts (is_formed d.names d.bytes && before d b) (shaped d.under && shaped (cells (b ∷ l))) e in
    let others = and_parts (shaped d.under) (shaped (cells (b ∷ l))) parts.1 in
    and_from (is_formed d.names d.bytes && before d b) (shaped d.under && shaped (cells ((b ∷ l) ++ c ∷ []))) parts.0
    (and_from (shaped d.under) (shaped (cells ((b ∷ l) ++ c ∷ []))) others.0 (shaped_more (b ∷ l) c u t others.1 f))

shaped_after : (level : ℕ) (c : PlainNode) (levels : List (List PlainNode)) → c.under ≡ none → is_formed c.names c.bytes ≡ true → Each IsLevel levels → level ≤ length levels
    → shaped (forest_of_levels levels) ≡ true → extends_order before (level_at level levels) c ≡ true → shaped (forest_of_levels (with_node level c levels)) ≡ true
shaped_after level c [] u t h le e f = shaped_more [] c u t refl refl
shaped_after zero c (l ∷ ls) u t h le e f =
    ap shaped (nested_more c l ls h.0)
    ∙ shaped_more (with_children l (forest_of_levels ls)) c u t (ap shaped (sym (nested_cons l ls h.0)) ∙ e) (extends_over l (forest_of_levels ls) c ∙ f)
shaped_after (suc j) c (l ∷ ls) u t h le e f =
    let parts = shaped_parts l (forest_of_levels ls) h.0 (ap shaped (sym (nested_cons l ls h.0)) ∙ e) in
    ap shaped (nested_cons l (with_node j c ls) h.0)
    ∙ shaped_over l (forest_of_levels (with_node j c ls)) h.0 parts.0 (shaped_after j c ls u t h.1 (omega (arith, le)) parts.1 f)

-- ---- terms

terms_over : (l : List PlainNode) (f : PlainForest) → IsLevel l → HasTerms (cells l) → HasTerms f → HasTerms (cells (with_children l f))
terms_over [] f h t s = absurd h
terms_over (c ∷ []) f h t s = (t.0, (t.1.0, (s, tt)))
terms_over (c ∷ d ∷ cs) f h t s = (t.0, (t.1.0, (t.1.1.0, terms_over (d ∷ cs) f h t.1.1.1 s)))

terms_parts : (l : List PlainNode) (f : PlainForest) → IsLevel l → HasTerms (cells (with_children l f)) → HasTerms (cells l) × HasTerms f
terms_parts [] f h t = absurd h
terms_parts (c ∷ []) f h t = ((t.0, (t.1.0, (subst HasTerms (sym h) tt, tt))), t.1.1.0)
terms_parts (c ∷ d ∷ cs) f h t =
    let more = terms_parts (d ∷ cs) f h t.1.1.1 in
    ((t.0, (t.1.0, (t.1.1.0, more.0))), more.1)

terms_more : (l : List PlainNode) (c : PlainNode) → IsNode c → HasTerms (cells l) → HasTerms (cells (l ++ c ∷ []))
terms_more [] c n t = (n.names, (n.value, (subst HasTerms (sym n.single) tt, tt)))
terms_more (d ∷ l) c n t = (t.0, (t.1.0, (t.1.1.0, terms_more l c n t.1.1.1)))

-- the terms of a forest with a node more are terms
pub terms_after : (level : ℕ) (c : PlainNode) (levels : List (List PlainNode)) → IsNode c → Each IsLevel levels → level ≤ length levels
    → HasTerms (forest_of_levels levels) → HasTerms (forest_of_levels (with_node level c levels))
terms_after level c [] n h le t = terms_more [] c n tt
terms_after zero c (l ∷ ls) n h le t =
    subst HasTerms (sym (nested_more c l ls h.0)) (terms_more (with_children l (forest_of_levels ls)) c n (subst HasTerms (nested_cons l ls h.0) t))
terms_after (suc j) c (l ∷ ls) n h le t =
    let parts = terms_parts l (forest_of_levels ls) h.0 (subst HasTerms (nested_cons l ls h.0) t) in
    subst HasTerms (sym (nested_cons l (with_node j c ls) h.0))
    (terms_over l (forest_of_levels (with_node j c ls)) h.0 parts.0 (terms_after j c ls n h.1 (omega (arith, le)) parts.1))

-- ---- the forest

formed : (c : PlainNode) → IsNode c → length c.names ≤ 8 → ascending c.names ≡ true → is_formed c.names c.bytes ≡ true
formed c n few a =
    and_from (is_size c.bytes) (are_names c.names) n.size
    (and_from (nat_le 1 (length c.names)) (nat_le (length c.names) 8 && ascending c.names) (le-leb 1 (length c.names) (omega (arith, n.named)))
    (and_from (nat_le (length c.names) 8) (ascending c.names) (le-leb (length c.names) 8 few) a))

single_after : (level : ℕ) (c : PlainNode) (levels : List (List PlainNode)) → c.under ≡ none → Each IsLevel levels → level ≤ length levels
    → ((at : PlainSum) (bytes : ℕ) → count_at at bytes (forest_of_levels levels) ≤ 1)
    → list_any (λ nodes. collides c (cells nodes)) levels ≡ false
    → (at : PlainSum) (bytes : ℕ) → count_at at bytes (forest_of_levels (with_node level c levels)) ≤ 1
single_after level c levels u h le old none_met at bytes =
    let sum_is = holders_after at bytes level c levels u h le in
    elim (cases_Bool (is_here at bytes c.names c.bytes)) as (λ w. count_at at bytes (forest_of_levels (with_node level c levels)) ≤ 1) [
      | inl q ↦
          let here = and_parts (c.bytes == bytes) (has_name at c.names) q in
          let gone : count_at at bytes (forest_of_levels levels) ≡ 0 =
          subst (λ b. count_at at b (forest_of_levels levels) ≡ 0) (eqb-true c.bytes bytes here.0) (unmet_levels c at levels h here.1 none_met) in
          let once : from_bool (is_here at bytes c.names c.bytes) ≡ 1 = ap from_bool q in
          omega (arith, sum_is, gone, once)
      | inr q ↦
          let zero_here : from_bool (is_here at bytes c.names c.bytes) ≡ 0 = ap from_bool q in
          omega (arith, sum_is, zero_here, old at bytes)
    ]

-- a forest with a node more that fits is a forest
pub forest_after : (level : ℕ) (c : PlainNode) (levels : List (List PlainNode)) → IsNode c → Each IsLevel levels → level ≤ length levels → IsForest (forest_of_levels levels)
    → length c.names ≤ 8 → ascending c.names ≡ true → node_fits level c levels ≡ true → count_of levels < 64
    → IsForest (forest_of_levels (with_node level c levels))
forest_after level c levels n h le f few a fits room =
    let parts = and_parts (extends_order before (level_at level levels) c) (not (list_any (λ nodes. collides c (cells nodes)) levels)) fits in
    let none_met = not-true (list_any (λ nodes. collides c (cells nodes)) levels) parts.1 in
    record {
      few = omega (arith, count_after level c levels n.single h le, count_levels levels h, room);
      in_form = shaped_after level c levels n.single (formed c n few a) h le f.in_form parts.0;
      single = single_after level c levels n.single h le f.single none_met;
    }
