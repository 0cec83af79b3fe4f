-- Each region stands once where the test of each node's own names says so.
use Rattle.std.proofs.Common.{◌≡◌, ℕ, ◌-◌, ◌≤◌, Bool, true, false, ◌&&◌, List, [], ◌∷◌, Some, None, refl, ap, subst, arith, inl, inr}
use Rattle.std.specs.Prelude.{is_some, nat_le, if◌then◌else◌, ◌==◌}
use Rattle.std.specs.declared.cmp.Ordering.{Ordering}
use Rattle.std.specs.declared.cmp.Ordering.TheVariants.{Less, Equal, Greater}
use Rattle.std.specs.Int.{from_bool}
use Rattle.std.specs.Ordering.{is_eq}
use Rattle.std.proofs.lemmas.Bool.{and_parts, and_from, or_cases, cases_Bool, eqb-true, leb-true, le-leb, cases_lt}
use Rattle.sym_terms.specs.Plain.{PlainSum}
use Rattle.sym_terms.specs.Order.{sum_cmp}
use Rattle.sym_terms.specs.Codes.{sum_same}
use Rattle.mem_forest.specs.Plain.{PlainForest, none, cell, count}
use Rattle.mem_forest.specs.Search.{has_name, is_here, count_at}
use Rattle.mem_forest.specs.Shape.{shaped, IsForest, left_after, is_unique, all_alone}

-- a yes to the test for Equal
pub equal_from : (o : Ordering) → is_eq o ≡ true → o ≡ Equal
equal_from Less e = absurd (cc)
equal_from Equal e = refl
equal_from Greater e = absurd (cc)

alone_at : (f : PlainForest) (b : ℕ) (ns : List PlainSum) → is_unique f b ns ≡ true → (at : PlainSum) → has_name at ns ≡ true → count_at at b f ≤ 1
alone_at f b [] e at h = absurd (cc)
alone_at f b (n ∷ ns) e at h =
    let parts = and_parts (nat_le (count_at n b f) 1) (is_unique f b ns) e in
    let Goal : Type 0 = count_at at b f ≤ 1 in
    elim (or_cases (is_eq (sum_cmp n at)) (has_name at ns) h) as (λ w. Goal) [
      | inl q ↦
          let same = sum_same n at (equal_from (sum_cmp n at) q) in
          let P : PlainSum → Type 0 = λ x. count_at x b f ≤ 1 in
          subst P same (leb-true (count_at n b f) 1 parts.0)
      | inr q ↦ alone_at f b ns parts.1 at q
    ]

-- a region of one of the nodes stands once where the test passes on each
single_from : (f g : PlainForest) → all_alone f g ≡ true → (at : PlainSum) (bytes : ℕ) → 1 ≤ count_at at bytes g → count_at at bytes f ≤ 1
single_from f none e at bytes h = absurd (omega arith)
single_from f (cell ns b v under rest) e at bytes h =
    let own = and_parts (is_unique f b ns) (all_alone f under && all_alone f rest) e in
    let others = and_parts (all_alone f under) (all_alone f rest) own.1 in
    let Goal : Type 0 = count_at at bytes f ≤ 1 in
    elim (cases_Bool (is_here at bytes ns b)) as (λ w. Goal) [
      | inl q ↦
          let here = and_parts (b == bytes) (has_name at ns) q in
          let P : ℕ → Type 0 = λ x. count_at at x f ≤ 1 in
          subst P (eqb-true b bytes here.0) (alone_at f b ns own.0 at here.1)
      | inr q ↦
          let zero_here : from_bool (is_here at bytes ns b) ≡ 0 = ap from_bool q in
          elim (cases_lt 0 (count_at at bytes under)) as (λ w. Goal) [
            | inl k ↦ single_from f under others.0 at bytes (omega (arith, k))
            | inr k ↦ single_from f rest others.1 at bytes (omega (arith, k, h, zero_here))
          ]
    ]

alone_from : (f : PlainForest) (b : ℕ) (ns : List PlainSum) → ((at : PlainSum) (bytes : ℕ) → count_at at bytes f ≤ 1) → is_unique f b ns ≡ true
alone_from f b [] h = refl
alone_from f b (n ∷ ns) h = and_from (nat_le (count_at n b f) 1) (is_unique f b ns) (le-leb (count_at n b f) 1 (h n b)) (alone_from f b ns h)

all_alone_from : (f g : PlainForest) → ((at : PlainSum) (bytes : ℕ) → count_at at bytes f ≤ 1) → all_alone f g ≡ true
all_alone_from f none h = refl
all_alone_from f (cell ns b v under rest) h =
    and_from (is_unique f b ns) (all_alone f under && all_alone f rest) (alone_from f b ns h)
    (and_from (all_alone f under) (all_alone f rest) (all_alone_from f under h) (all_alone_from f rest h))

room_by : (t : Bool) (n : ℕ) → is_some (if t then Some n else None) ≡ true → t ≡ true
room_by true n e = refl
room_by false n e = absurd (cc)

-- nodes that fit a number of places are at most that many
pub few_from : (room : ℕ) (f : PlainForest) → is_some (left_after room f) ≡ true → count f ≤ room
few_from room f e = leb-true (count f) room (room_by (nat_le (count f) room) (room - count f) e)

-- nodes that pass the three tests are a forest
pub forest_from : (f : PlainForest) → is_some (left_after 64 f) ≡ true → shaped f ≡ true → all_alone f f ≡ true → IsForest f
forest_from f e s a = record {
  few = few_from 64 f e;
  in_form = s;
  single = λ at bytes. elim (cases_lt 0 (count_at at bytes f)) as (λ w. count_at at bytes f ≤ 1) [
    | inl k ↦ single_from f f a at bytes (omega (arith, k))
    | inr k ↦ omega (arith, k)
  ];
}

-- a forest passes the third test
pub forest_alone : (f : PlainForest) → IsForest f → all_alone f f ≡ true
forest_alone f h = all_alone_from f f h.single
