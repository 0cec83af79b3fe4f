-- The value at a region once a load has named it.
use Rattle.std.proofs.Common.{◌≡◌, ℕ, ◌+◌, ◌≤◌, Bool, true, false, ◌||◌, List, [], ◌∷◌, Option, Some, None, refl, sym, ap, ap₂, ◌∙◌, inl, inr, subst, arith}
use Rattle.std.specs.Prelude.{if◌then◌else◌, is_some}
use Rattle.std.specs.Int.{from_bool}
use Rattle.std.proofs.lemmas.Bool.{cases_Bool}
use Rattle.sym_terms.specs.Plain.{PlainSum}
use Rattle.memory_regions.specs.declared.region.Relation.{Relation}
use Rattle.mem_forest.specs.Plain.{PlainForest, none, cell, PlainNode}
use Rattle.mem_forest.specs.Search.{is_here, find, found, count_at, value_of_found, value_at}
use Rattle.mem_forest.specs.Shape.{comes_before, IsForest, is_size}
use Rattle.mem_forest.specs.Levels.{related, is_separate, is_inside, is_around, selected, has_inside, insert, value_if, nodes_if, written, inside_first, at_level, has_room}
use Rattle.mem_forest.specs.Load.{is_clear, filled, named, named_unless, load}
use Rattle.mem_forest.proofs.WeightLemmas.{at_region, count_at_weigh, selected_weigh}
use Rattle.mem_forest.proofs.ShapeLemmas.{not_here}
use Rattle.mem_forest.proofs.FormLemmas.{not_found, written_forest, filled_forest}

-- the node at hand, else what is found under it, else what is found beside it
abbrev found_by : Bool → PlainNode → Option PlainNode → Option PlainNode → Option PlainNode
found_by t c o p = elim t as (λ t. Option PlainNode) [ true ↦ Some c | false ↦ elim o as (λ o. Option PlainNode) [ Some d ↦ Some d | None ↦ p ] ]

some_by : (t : Bool) (c : PlainNode) (o p : Option PlainNode) → is_some (found_by t c o p) ≡ (t || (is_some o || is_some p))
some_by true c o p = refl
some_by false c (Some d) p = refl
some_by false c None p = refl

no_value : (o : Option PlainNode) → is_some o ≡ false → value_of_found o ≡ None
no_value (Some c) e = absurd (cc)
no_value None e = refl

-- a node is found exactly where one is there
pub is_some-find : (at : PlainSum) (a : ℕ) (f : PlainForest) → is_some (find at a f) ≡ found at a f
is_some-find at a none = refl
is_some-find at a (cell ns b v under rest) =
    some_by (is_here at a ns b) (record { names = ns; bytes = b; value = v; under = under }) (find at a under) (find at a rest)
    ∙ ap₂ (λ p q. is_here at a ns b || (p || q)) (is_some-find at a under) (is_some-find at a rest)

module _ (at : PlainSum) (a : ℕ) where
  -- a node that is found has the value
  abbrev Finds : Option PlainSum → Option PlainNode → Type 0
  Finds w o = (is_some o ≡ true) × (value_of_found o ≡ w)

  finds_by : (w : Option PlainSum) (t : Bool) (c : PlainNode) (o p : Option PlainNode) → t ≡ false → Finds w o → Finds w (found_by t c o p)
  finds_by w true c o p e h = absurd (cc)
  finds_by w false c (Some d) p e h = h
  finds_by w false c None p e h = let q : false ≡ true = h.0 in absurd (cc)

  finds_beside : (w : Option PlainSum) (t : Bool) (c : PlainNode) (o p : Option PlainNode) → t ≡ false → is_some o ≡ false → Finds w p → Finds w (found_by t c o p)
  finds_beside w true c o p e g h = absurd (cc)
  finds_beside w false c (Some d) p e g h = absurd (cc)
  finds_beside w false c None p e g h = h

  finds_here : (w : Option PlainSum) (t : Bool) (c : PlainNode) (o p : Option PlainNode) → t ≡ true → c.value ≡ w → Finds w (found_by t c o p)
  finds_here w true c o p e h = (refl, h)
  finds_here w false c o p e h = absurd (cc)

  -- a write to a node that is found
  written_finds : (keep : Bool) (v : Option PlainSum) (f : PlainForest) → found at a f ≡ true → Finds v (find at a (written keep at a v f))
  written_finds keep v none e = absurd (cc)
  written_finds keep v (cell ns b w under rest) e =
      (elim (is_here at a ns b) as (λ t. is_here at a ns b ≡ t → (t || (found at a under || found at a rest)) ≡ true → Finds v (find at a (if t then cell ns b v (nodes_if keep under) rest
      else if found at a under then cell ns b (value_if keep w) (written keep at a v under) rest else cell ns b w under (written keep at a v rest)))) [
        | true ↦ λ q g. finds_here v (is_here at a ns b) (record { names = ns; bytes = b; value = v; under = nodes_if keep under }) (find at a (nodes_if keep under)) (find at a rest) q refl
        | false ↦ λ q g. (elim (found at a under) as (λ t. found at a under ≡ t → (t || found at a rest) ≡ true → Finds v (find at a (if t then cell ns b (value_if keep w) (written keep at a v under) rest else cell ns b w under (written keep at a v rest)))) [
          | true ↦ λ r h. finds_by v (is_here at a ns b) (record { names = ns; bytes = b; value = value_if keep w; under = written keep at a v under }) (find at a (written keep at a v under)) (find at a rest) q (written_finds keep v under r)
          | false ↦ λ r h. finds_beside v (is_here at a ns b) (record { names = ns; bytes = b; value = w; under = under }) (find at a under) (find at a (written keep at a v rest)) q (is_some-find at a under ∙ r) (written_finds keep v rest h)
        ]) refl g
      ]) refl e

  module _ (w : Option PlainSum) where
    -- each node at the region has the value
    abbrev AllHave : PlainForest → Type 0
    AllHave none = Unit {0}
    AllHave (cell ns b v under rest) = (is_here at a ns b ≡ true → v ≡ w) × AllHave under × AllHave rest

    have_none : (f : PlainForest) → count_at at a f ≡ 0 → AllHave f
    have_none none z = tt
    have_none (cell ns b v under rest) z =
        let p = not_here at a ns b v under rest z in
        (λ e. let q = sym p.0 ∙ e in absurd (cc), have_none under p.1, have_none rest p.2)

    have_insert : (ns : List PlainSum) (b : ℕ) (v : Option PlainSum) (under f : PlainForest) → (is_here at a ns b ≡ true → v ≡ w) → AllHave under → AllHave f → AllHave (insert ns b v under f)
    have_insert ns b v under none e h g = (e, h, tt)
    have_insert ns b v under (cell ms c x below rest) e h g =
        elim (comes_before ns b ms c) as (λ t. AllHave (if t then cell ns b v under (cell ms c x below rest) else cell ms c x below (insert ns b v under rest))) [
          | true ↦ (e, h, g)
          | false ↦ (g.0, g.1, have_insert ns b v under rest e h g.2)
        ]

    have_finds : (f : PlainForest) → AllHave f → found at a f ≡ true → Finds w (find at a f)
    have_finds none h e = absurd (cc)
    have_finds (cell ns b v under rest) h e =
        (elim (is_here at a ns b) as (λ t. is_here at a ns b ≡ t → (t || (found at a under || found at a rest)) ≡ true → Finds w (find at a (cell ns b v under rest))) [
          | true ↦ λ q g. finds_here w (is_here at a ns b) (record { names = ns; bytes = b; value = v; under = under }) (find at a under) (find at a rest) q (h.0 q)
          | false ↦ λ q g. (elim (found at a under) as (λ t. found at a under ≡ t → (t || found at a rest) ≡ true → Finds w (find at a (cell ns b v under rest))) [
            | true ↦ λ r k. finds_by w (is_here at a ns b) (record { names = ns; bytes = b; value = v; under = under }) (find at a under) (find at a rest) q (have_finds under h.1 r)
            | false ↦ λ r k. finds_beside w (is_here at a ns b) (record { names = ns; bytes = b; value = v; under = under }) (find at a under) (find at a rest) q (is_some-find at a under ∙ r) (have_finds rest h.2 k)
          ]) refl g
        ]) refl e

  selected_zero : (test : Relation → Bool) (rel : PlainSum → ℕ → Relation) (f : PlainForest) → count_at at a f ≡ 0 → count_at at a (selected test rel f) ≡ 0
  selected_zero test rel f z = omega (arith, z, count_at_weigh at a f, count_at_weigh at a (selected test rel f), selected_weigh (at_region at a) test rel f)

  module _ (rel : PlainSum → ℕ → Relation) (v : PlainSum) where
    filled_have : (f : PlainForest) → count_at at a f ≡ 0 → AllHave (Some v) (filled rel at a v f)
    filled_have f z = elim (is_clear rel f) as (λ t. AllHave (Some v) (if t then insert (at ∷ []) a (Some v) (selected is_around rel f) (selected is_separate rel f) else f)) [
      | true ↦
          have_insert (Some v) (at ∷ []) a (Some v) (selected is_around rel f) (selected is_separate rel f) (λ e. refl)
          (have_none (Some v) (selected is_around rel f) (selected_zero is_around rel f z)) (have_none (Some v) (selected is_separate rel f) (selected_zero is_separate rel f z))
      | false ↦ have_none (Some v) f z
    ]

    first_have : (f : PlainForest) → count_at at a f ≡ 0 → AllHave (Some v) (inside_first true rel (filled rel at a v) f)
    first_have none z = tt
    first_have (cell ns b x under rest) z =
        let p = not_here at a ns b x under rest z in
        elim (is_inside (related rel ns b)) as (λ t. AllHave (Some v) (if t then cell ns b (value_if true x) (if has_inside rel under then inside_first true rel (filled rel at a v) under else filled rel at a v under) rest
        else cell ns b x under (inside_first true rel (filled rel at a v) rest))) [
          | true ↦ (
            λ e. let q = sym p.0 ∙ e in absurd (cc),
            elim (has_inside rel under) as (λ t. AllHave (Some v) (if t then inside_first true rel (filled rel at a v) under else filled rel at a v under)) [ true ↦ first_have under p.1 | false ↦ filled_have under p.1 ],
            have_none (Some v) rest p.2,
          )
          | false ↦ (λ e. let q = sym p.0 ∙ e in absurd (cc), have_none (Some v) under p.1, first_have rest p.2)
        ]

    level_have : (f : PlainForest) → count_at at a f ≡ 0 → AllHave (Some v) (at_level true rel (filled rel at a v) f)
    level_have f z = elim (has_inside rel f) as (λ t. AllHave (Some v) (if t then inside_first true rel (filled rel at a v) f else filled rel at a v f)) [ true ↦ first_have f z | false ↦ filled_have f z ]

  none_found : (f : PlainForest) → found at a f ≡ false → value_at at a f ≡ None
  none_found f e = no_value (find at a f) (is_some-find at a f ∙ e)

  -- the value that stands there, where a node does
  value_by : (v : PlainSum) (g : PlainForest) (t : Bool) → found at a g ≡ t → (found at a g ≡ true → Finds (Some v) (find at a g)) → value_at at a g ≡ value_if t (Some v)
  value_by v g true e h = (h e).1
  value_by v g false e h = none_found g e

  -- once a load has named what had no value, the value at the region is the name, where a node stands there
  pub named_value : (rel : PlainSum → ℕ → Relation) (v : PlainSum) (f : PlainForest) → value_at at a (named rel at a v f) ≡ value_if (found at a (named rel at a v f)) (Some v)
  named_value rel v f = (elim (found at a f) as (λ t. found at a f ≡ t → value_at at a (if t then written true at a (Some v) f else if has_room f then at_level true rel (filled rel at a v) f else f)
      ≡ value_if (found at a (if t then written true at a (Some v) f else if has_room f then at_level true rel (filled rel at a v) f else f)) (Some v)) [
        | true ↦ λ e. value_by v (written true at a (Some v) f) (found at a (written true at a (Some v) f)) refl (λ q. written_finds true (Some v) f e)
        | false ↦ λ e. elim (has_room f) as (λ t. value_at at a (if t then at_level true rel (filled rel at a v) f else f) ≡ value_if (found at a (if t then at_level true rel (filled rel at a v) f else f)) (Some v)) [
          | true ↦ value_by v (at_level true rel (filled rel at a v) f) (found at a (at_level true rel (filled rel at a v) f)) refl (λ q. have_finds (Some v) (at_level true rel (filled rel at a v) f) (level_have rel v f (not_found at a f e)) q)
          | false ↦ none_found f e ∙ ap (λ t. value_if t (Some v)) (sym e)
        ]
      ]) refl

-- what a load leaves is a forest
pub named_forest : (rel : PlainSum → ℕ → Relation) (at : PlainSum) (a : ℕ) (v : PlainSum) (f : PlainForest) → is_size a ≡ true → IsForest f → IsForest (named rel at a v f)
named_forest rel at a v f sized h = (elim (found at a f) as (λ t. found at a f ≡ t → IsForest (if t then written true at a (Some v) f else if has_room f then at_level true rel (filled rel at a v) f else f)) [
  | true ↦ λ e. written_forest true at a (Some v) f h
  | false ↦ λ e. (elim (has_room f) as (λ t. has_room f ≡ t → IsForest (if t then at_level true rel (filled rel at a v) f else f)) [
    | true ↦ λ g. filled_forest rel at a v f sized h (not_found at a f e) g
    | false ↦ λ g. h
  ]) refl
]) refl
