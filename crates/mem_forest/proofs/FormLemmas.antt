-- What each rule leaves of a forest is a forest.
use Rattle.std.proofs.Common.{◌≡◌, ℕ, ◌+◌, ◌≤◌, Bool, true, false, ◌||◌, List, [], ◌∷◌, Option, refl, sym, ap, ap₂, ◌∙◌, arith}
use Rattle.std.specs.Prelude.{if◌then◌else◌, ◌==◌, nat_lt}
use Rattle.std.specs.Int.{from_bool}
use Rattle.std.specs.Ordering.{is_eq}
use Rattle.std.proofs.lemmas.Bool.{and_parts, eqb-true, ltb-true}
use Rattle.sym_terms.specs.Plain.{PlainSum}
use Rattle.sym_terms.specs.Order.{sum_cmp}
use Rattle.sym_terms.specs.Codes.{sum_same}
use Rattle.memory_regions.specs.declared.region.Relation.{Relation}
use Rattle.memory_regions.specs.declared.region.Region.{Region}
use Rattle.mem_forest.specs.Plain.{PlainForest, none, cell, count}
use Rattle.mem_forest.specs.Search.{is_here, found, count_at}
use Rattle.mem_forest.specs.Shape.{is_size, shaped, IsForest}
use Rattle.mem_forest.specs.Levels.{written, at_level, has_room}
use Rattle.mem_forest.specs.Store.{placed, store}
use Rattle.mem_forest.specs.Load.{filled}
use Rattle.mem_forest.specs.Clear.{clear_values}
use Rattle.mem_forest.proofs.SingleLemmas.{equal_from}
use Rattle.mem_forest.proofs.CountLemmas.{nat_lt-same}
use Rattle.mem_forest.proofs.WeightLemmas.{weigh, each_one, at_region, count_weigh, count_at_weigh, written_weigh, placed_fewer, placed_more, filled_level_more, clear_weigh}
use Rattle.mem_forest.proofs.ShapeLemmas.{written_shaped, placed_shaped, filled_level_shaped, clear_shaped}

or_parts : (p q : Bool) → (p || q) ≡ false → (p ≡ false) × (q ≡ false)
or_parts true q e = absurd (cc)
or_parts false q e = (refl, e)

or_left : (p : Bool) → (p || false) ≡ true → p ≡ true
or_left true e = refl
or_left false e = absurd (cc)

-- none is at a region where none is found
pub not_found : (at : PlainSum) (a : ℕ) (f : PlainForest) → found at a f ≡ false → count_at at a f ≡ 0
not_found at a none e = refl
not_found at a (cell ns b v under rest) e =
    let p = or_parts (is_here at a ns b) (found at a under || found at a rest) e in
    let q = or_parts (found at a under) (found at a rest) p.1 in
    omega (arith, ap from_bool p.0, not_found at a under q.0, not_found at a rest q.1)

-- the region of one name is that of another only where they are the same
pub one_region : (t : PlainSum) (b : ℕ) (at : PlainSum) (a : ℕ) → is_here t b (at ∷ []) a ≡ true → (at ≡ t) × (a ≡ b)
one_region t b at a e =
    let p = and_parts (a == b) (is_eq (sum_cmp at t) || false) e in
    let q : is_eq (sum_cmp at t) ≡ true = or_left (is_eq (sum_cmp at t)) p.1 in
    (sum_same at t (equal_from (sum_cmp at t) q), eqb-true a b p.0)

-- a forest to which one region came at most, which none was at
pub with_one : (at : PlainSum) (a : ℕ) (f g : PlainForest) → IsForest f → count_at at a f ≡ 0 → ((w : List PlainSum → ℕ → ℕ) → weigh w g ≤ weigh w f + w (at ∷ []) a) → (t : PlainSum) (b : ℕ) → count_at t b g ≤ 1
with_one at a f g h z more t b =
    let m : count_at t b g ≤ count_at t b f + at_region t b (at ∷ []) a = omega (arith, more (at_region t b), count_at_weigh t b g, count_at_weigh t b f) in
    (elim (is_here t b (at ∷ []) a) as (λ o. is_here t b (at ∷ []) a ≡ o → count_at t b g ≤ count_at t b f + from_bool o → count_at t b g ≤ 1) [
      | true ↦ λ e k.
          let s = one_region t b at a e in
          let y : count_at t b f ≡ 0 = ap₂ (λ x c. count_at x c f) (sym s.0) (sym s.1) ∙ z in
          omega (arith, y, k)
      | false ↦ λ e k. omega (arith, k, h.single t b)
    ]) refl m

-- so is one in which no node came
pub with_none : (f g : PlainForest) → IsForest f → shaped g ≡ true → ((w : List PlainSum → ℕ → ℕ) → weigh w g ≤ weigh w f) → IsForest g
with_none f g h s less = record {
  few = omega (arith, less each_one, count_weigh f, count_weigh g, h.few);
  in_form = s;
  single = λ t b. omega (arith, less (at_region t b), count_at_weigh t b f, count_at_weigh t b g, h.single t b);
}

pub written_forest : (keep : Bool) (at : PlainSum) (a : ℕ) (v : Option PlainSum) (f : PlainForest) → IsForest f → IsForest (written keep at a v f)
written_forest keep at a v f h = with_none f (written keep at a v f) h (written_shaped keep at a v f h.in_form) (λ w. written_weigh w keep at a v f)

pub placed_forest : (rel : PlainSum → ℕ → Relation) (at : PlainSum) (a : ℕ) (v : Option PlainSum) (f : PlainForest) → is_size a ≡ true → IsForest f → count_at at a f ≡ 0 → (room : Bool) → has_room (placed rel at a v false f) ≡ room → IsForest (placed rel at a v room f)
placed_forest rel at a v f sized h z true e = record {
  few = omega (arith, placed_more each_one rel at a v f, ltb-true (count (placed rel at a v false f)) 64 e, count_weigh (placed rel at a v true f), count_weigh (placed rel at a v false f));
  in_form = placed_shaped rel at a sized v true f z h.in_form;
  single = with_one at a f (placed rel at a v true f) h z (λ w. omega (arith, placed_more w rel at a v f, placed_fewer w rel at a v f));
}
placed_forest rel at a v f sized h z false e =
    with_none f (placed rel at a v false f) h (placed_shaped rel at a sized v false f z h.in_form) (λ w. placed_fewer w rel at a v f)

pub filled_forest : (rel : PlainSum → ℕ → Relation) (at : PlainSum) (a : ℕ) (v : PlainSum) (f : PlainForest) → is_size a ≡ true → IsForest f → count_at at a f ≡ 0 → has_room f ≡ true → IsForest (at_level true rel (filled rel at a v) f)
filled_forest rel at a v f sized h z e = record {
  few = omega (arith, filled_level_more each_one rel at a v f, ltb-true (count f) 64 e, count_weigh f, count_weigh (at_level true rel (filled rel at a v) f));
  in_form = filled_level_shaped rel at a sized v f z h.in_form;
  single = with_one at a f (at_level true rel (filled rel at a v) f) h z (λ w. filled_level_more w rel at a v f);
}

pub clear_forest : (rs : List Region) (f : PlainForest) → IsForest f → IsForest (clear_values rs f)
clear_forest rs f h = with_none f (clear_values rs f) h (clear_shaped rs f h.in_form) (λ w. omega (arith, clear_weigh w rs f))

-- room for the region, counted before or after
room_counted : (rel : PlainSum → ℕ → Relation) (at : PlainSum) (a : ℕ) (v : Option PlainSum) (total : ℕ) (f : PlainForest) → total ≡ count f
    → nat_lt (total + count (placed rel at a v false f)) (64 + count f) ≡ has_room (placed rel at a v false f)
room_counted rel at a v total f e =
    nat_lt-same (total + count (placed rel at a v false f)) (64 + count f) (count (placed rel at a v false f)) 64 (omega (arith, e))

-- what a store leaves where the region is not found
pub store_placed : (rel : PlainSum → ℕ → Relation) (at : PlainSum) (a : ℕ) (v : Option PlainSum) (total : ℕ) (f g : PlainForest) → found at a f ≡ false → total ≡ count f
    → g ≡ placed rel at a v (nat_lt (total + count (placed rel at a v false f)) (64 + count f)) f → g ≡ store rel at a v f
store_placed rel at a v total f g e t h =
    h ∙ ap (λ r. placed rel at a v r f) (room_counted rel at a v total f t)
    ∙ sym (ap (λ o. if o then written false at a v f else placed rel at a v (has_room (placed rel at a v false f)) f) e)

-- is a forest
pub store_forest : (rel : PlainSum → ℕ → Relation) (at : PlainSum) (a : ℕ) (v : Option PlainSum) (f : PlainForest) → is_size a ≡ true → IsForest f → IsForest (store rel at a v f)
store_forest rel at a v f sized h = (elim (found at a f) as (λ o. found at a f ≡ o → IsForest (if o then written false at a v f else placed rel at a v (has_room (placed rel at a v false f)) f)) [
  | true ↦ λ e. written_forest false at a v f h
  | false ↦ λ e. placed_forest rel at a v f sized h (not_found at a f e) (has_room (placed rel at a v false f)) refl
]) refl
