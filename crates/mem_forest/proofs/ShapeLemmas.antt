-- The form and the order of nodes after the rules of store and load.
use Rattle.std.proofs.Common.{◌≡◌, ℕ, Bool, true, false, ◌&&◌, List, [], ◌∷◌, Option, Some, refl, ap, inl, inr, arith}
use Rattle.std.specs.Prelude.{if◌then◌else◌}
use Rattle.std.specs.Int.{from_bool}
use Rattle.std.proofs.lemmas.Bool.{and_parts, and_from, cases_Bool}
use Rattle.sym_terms.specs.Plain.{PlainSum}
use Rattle.memory_regions.specs.declared.region.Relation.{Relation}
use Rattle.memory_regions.specs.declared.region.Region.{Region}
use Rattle.mem_forest.specs.Plain.{PlainForest, none, cell}
use Rattle.mem_forest.specs.Search.{is_here, found, count_at}
use Rattle.mem_forest.specs.Shape.{is_size, are_names, is_formed, comes_before, precedes, shaped}
use Rattle.mem_forest.specs.Levels.{related, is_separate, is_inside, is_around, selected, has_inside, insert, value_if, nodes_if, written, inside_first, at_level}
use Rattle.mem_forest.specs.Store.{renewed, placed}
use Rattle.mem_forest.specs.Load.{is_clear, filled}
use Rattle.mem_forest.specs.Clear.{is_any_here, clear_values}
use Rattle.mem_forest.proofs.WeightLemmas.{at_region, count_at_weigh, selected_weigh}
use Rattle.mem_forest.proofs.OrderLemmas.{before_trans, before_turned}

-- a level that is shaped, by its parts
pub record Shaped (ns : List PlainSum) (b : ℕ) (under rest : PlainForest) : Type 0 where
  pub formed : is_formed ns b ≡ true
  pub first : precedes ns b rest ≡ true
  pub below : shaped under ≡ true
  pub others : shaped rest ≡ true

pub shaped_parts : (ns : List PlainSum) (b : ℕ) (v : Option PlainSum) (under rest : PlainForest) → shaped (cell ns b v under rest) ≡ true → Shaped ns b under rest
shaped_parts ns b v under rest e =
    let p = and_parts (is_formed ns b && precedes ns b rest) (shaped under && shaped rest) e in
    let q = and_parts (is_formed ns b) (precedes ns b rest) p.0 in
    let r = and_parts (shaped under) (shaped rest) p.1 in
    record { formed = q.0; first = q.1; below = r.0; others = r.1 }

pub shaped_from : (ns : List PlainSum) (b : ℕ) (v : Option PlainSum) (under rest : PlainForest) → Shaped ns b under rest → shaped (cell ns b v under rest) ≡ true
shaped_from ns b v under rest s =
    and_from (is_formed ns b && precedes ns b rest) (shaped under && shaped rest) (and_from (is_formed ns b) (precedes ns b rest) s.formed s.first) (and_from (shaped under) (shaped rest) s.below s.others)

-- a node has a name
no_names : (b : ℕ) → is_formed [] b ≡ true → ⊥
no_names b e = let p = and_parts (is_size b) (are_names []) e in let q : false ≡ true = p.1 in cc

-- what stands before the first of a level, and that before the rest, stands before the rest
pub precedes_trans : (ns ms : List PlainSum) (b c : ℕ) (rest : PlainForest) → is_formed ns b ≡ true → is_formed ms c ≡ true → comes_before ns b ms c ≡ true → shaped rest ≡ true → precedes ms c rest ≡ true → precedes ns b rest ≡ true
precedes_trans ns ms b c none f g e s p = refl
precedes_trans [] ms b c (cell ls d v under rest) f g e s p = absurd (no_names b f)
precedes_trans (n ∷ ns) [] b c (cell ls d v under rest) f g e s p = absurd (no_names c g)
precedes_trans (n ∷ ns) (m ∷ ms) b c (cell [] d v under rest) f g e s p = absurd (no_names d (shaped_parts [] d v under rest s).formed)
precedes_trans (n ∷ ns) (m ∷ ms) b c (cell (l ∷ ls) d v under rest) f g e s p = before_trans n m l ns ms ls b c d e p

-- ---- where nodes go

module _ (test : Relation → Bool) (rel : PlainSum → ℕ → Relation) where
  selected_precedes : (ns : List PlainSum) (b : ℕ) (f : PlainForest) → is_formed ns b ≡ true → shaped f ≡ true → precedes ns b f ≡ true → precedes ns b (selected test rel f) ≡ true
  selected_precedes ns b none g s p = refl
  selected_precedes ns b (cell ms c v under rest) g s p =
      let t = shaped_parts ms c v under rest s in
      elim (test (related rel ms c)) as (λ t. precedes ns b (if t then cell ms c v under (selected test rel rest) else selected test rel rest) ≡ true) [
        | true ↦ p
        | false ↦ selected_precedes ns b rest g t.others (precedes_trans ns ms b c rest g t.formed p t.others t.first)
      ]

  pub selected_shaped : (f : PlainForest) → shaped f ≡ true → shaped (selected test rel f) ≡ true
  selected_shaped none s = refl
  selected_shaped (cell ns b v under rest) s =
      let t = shaped_parts ns b v under rest s in
      elim (test (related rel ns b)) as (λ t. shaped (if t then cell ns b v under (selected test rel rest) else selected test rel rest) ≡ true) [
        | true ↦ shaped_from ns b v under (selected test rel rest) (record { formed = t.formed; first = selected_precedes ns b rest t.formed t.others t.first; below = t.below; others = selected_shaped rest t.others })
        | false ↦ selected_shaped rest t.others
      ]

-- ---- where a node comes

insert_precedes : (ls : List PlainSum) (d : ℕ) (ns : List PlainSum) (b : ℕ) (v : Option PlainSum) (under f : PlainForest) → comes_before ls d ns b ≡ true → precedes ls d f ≡ true → precedes ls d (insert ns b v under f) ≡ true
insert_precedes ls d ns b v under none e p = e
insert_precedes ls d ns b v under (cell ms c w below rest) e p =
    elim (comes_before ns b ms c) as (λ t. precedes ls d (if t then cell ns b v under (cell ms c w below rest) else cell ms c w below (insert ns b v under rest)) ≡ true) [ true ↦ e | false ↦ p ]

-- no node of a level is at a region that none is at
pub not_here : (at : PlainSum) (a : ℕ) (ms : List PlainSum) (c : ℕ) (w : Option PlainSum) (below rest : PlainForest) → count_at at a (cell ms c w below rest) ≡ 0 → (is_here at a ms c ≡ false) × (count_at at a below ≡ 0) × (count_at at a rest ≡ 0)
not_here at a ms c w below rest e = elim (cases_Bool (is_here at a ms c)) [
  | inl q ↦ absurd (omega (arith, e, ap from_bool q))
  | inr q ↦ (q, omega (arith, e), omega (arith, e))
]

-- a node whose region is at none of a level
pub insert_shaped : (n : PlainSum) (ns : List PlainSum) (b : ℕ) (v : Option PlainSum) (under f : PlainForest) → is_formed (n ∷ ns) b ≡ true → shaped under ≡ true → shaped f ≡ true → count_at n b f ≡ 0 → shaped (insert (n ∷ ns) b v under f) ≡ true
insert_shaped n ns b v under none g u s z = shaped_from (n ∷ ns) b v under none (record { formed = g; first = refl; below = u; others = refl })
insert_shaped n ns b v under (cell [] c w below rest) g u s z = absurd (no_names c (shaped_parts [] c w below rest s).formed)
insert_shaped n ns b v under (cell (m ∷ ms) c w below rest) g u s z =
    let t = shaped_parts (m ∷ ms) c w below rest s in
    let y = not_here n b (m ∷ ms) c w below rest z in
    (elim (comes_before (n ∷ ns) b (m ∷ ms) c) as (λ o. comes_before (n ∷ ns) b (m ∷ ms) c ≡ o → shaped (if o then cell (n ∷ ns) b v under (cell (m ∷ ms) c w below rest) else cell (m ∷ ms) c w below (insert (n ∷ ns) b v under rest)) ≡ true) [
      | true ↦ λ e. shaped_from (n ∷ ns) b v under (cell (m ∷ ms) c w below rest) (record { formed = g; first = e; below = u; others = s })
      | false ↦ λ e. shaped_from (m ∷ ms) c w below (insert (n ∷ ns) b v under rest) (record {
        formed = t.formed;
        first = insert_precedes (m ∷ ms) c (n ∷ ns) b v under rest (before_turned n m ns ms b c e y.0) t.first;
        below = t.below;
        others = insert_shaped n ns b v under rest g u t.others y.2;
      })
    ]) refl

-- ---- down to a node or a level

module _ (keep : Bool) where
  pub nodes_if_shaped : (f : PlainForest) → shaped f ≡ true → shaped (nodes_if keep f) ≡ true
  nodes_if_shaped f s = elim keep as (λ t. shaped (nodes_if t f) ≡ true) [ true ↦ s | false ↦ refl ]

  written_precedes : (ns : List PlainSum) (b : ℕ) (at : PlainSum) (a : ℕ) (v : Option PlainSum) (f : PlainForest) → precedes ns b f ≡ true → precedes ns b (written keep at a v f) ≡ true
  written_precedes ns b at a v none p = refl
  written_precedes ns b at a v (cell ms c w under rest) p =
      elim (is_here at a ms c) as (λ t. precedes ns b (if t then cell ms c v (nodes_if keep under) rest
      else if found at a under then cell ms c (value_if keep w) (written keep at a v under) rest else cell ms c w under (written keep at a v rest)) ≡ true) [
        | true ↦ p
        | false ↦ elim (found at a under) as (λ t. precedes ns b (if t then cell ms c (value_if keep w) (written keep at a v under) rest else cell ms c w under (written keep at a v rest)) ≡ true) [ true ↦ p | false ↦ p ]
      ]

  pub written_shaped : (at : PlainSum) (a : ℕ) (v : Option PlainSum) (f : PlainForest) → shaped f ≡ true → shaped (written keep at a v f) ≡ true
  written_shaped at a v none s = refl
  written_shaped at a v (cell ns b w under rest) s =
      let p = shaped_parts ns b w under rest s in
      elim (is_here at a ns b) as (λ t. shaped (if t then cell ns b v (nodes_if keep under) rest
      else if found at a under then cell ns b (value_if keep w) (written keep at a v under) rest else cell ns b w under (written keep at a v rest)) ≡ true) [
        | true ↦ shaped_from ns b v (nodes_if keep under) rest (record { formed = p.formed; first = p.first; below = nodes_if_shaped under p.below; others = p.others })
        | false ↦ elim (found at a under) as (λ t. shaped (if t then cell ns b (value_if keep w) (written keep at a v under) rest else cell ns b w under (written keep at a v rest)) ≡ true) [
          | true ↦ shaped_from ns b (value_if keep w) (written keep at a v under) rest (record { formed = p.formed; first = p.first; below = written_shaped at a v under p.below; others = p.others })
          | false ↦ shaped_from ns b w under (written keep at a v rest) (record { formed = p.formed; first = written_precedes ns b at a v rest p.first; below = p.below; others = written_shaped at a v rest p.others })
        ]
      ]

  module _ (rel : PlainSum → ℕ → Relation) (at : PlainSum) (a : ℕ) (change : PlainForest → PlainForest) (changed : (f : PlainForest) → count_at at a f ≡ 0 → shaped f ≡ true → shaped (change f) ≡ true) where
    inside_first_precedes : (ns : List PlainSum) (b : ℕ) (f : PlainForest) → precedes ns b f ≡ true → precedes ns b (inside_first keep rel change f) ≡ true
    inside_first_precedes ns b none p = refl
    inside_first_precedes ns b (cell ms c w under rest) p =
        elim (is_inside (related rel ms c)) as (λ t. precedes ns b (if t then cell ms c (value_if keep w) (if has_inside rel under then inside_first keep rel change under else change under) rest
        else cell ms c w under (inside_first keep rel change rest)) ≡ true) [ true ↦ p | false ↦ p ]

    inside_first_shaped : (f : PlainForest) → count_at at a f ≡ 0 → shaped f ≡ true → shaped (inside_first keep rel change f) ≡ true
    inside_first_shaped none z s = refl
    inside_first_shaped (cell ns b w under rest) z s =
        let p = shaped_parts ns b w under rest s in
        let y = not_here at a ns b w under rest z in
        elim (is_inside (related rel ns b)) as (λ t. shaped (if t then cell ns b (value_if keep w) (if has_inside rel under then inside_first keep rel change under else change under) rest
        else cell ns b w under (inside_first keep rel change rest)) ≡ true) [
          | true ↦ shaped_from ns b (value_if keep w) (if has_inside rel under then inside_first keep rel change under else change under) rest (record {
            formed = p.formed;
            first = p.first;
            below = elim (has_inside rel under) as (λ t. shaped (if t then inside_first keep rel change under else change under) ≡ true) [
              | true ↦ inside_first_shaped under y.1 p.below
              | false ↦ changed under y.1 p.below
            ];
            others = p.others;
          })
          | false ↦ shaped_from ns b w under (inside_first keep rel change rest) (record { formed = p.formed; first = inside_first_precedes ns b rest p.first; below = p.below; others = inside_first_shaped rest y.2 p.others })
        ]

    pub at_level_shaped : (f : PlainForest) → count_at at a f ≡ 0 → shaped f ≡ true → shaped (at_level keep rel change f) ≡ true
    at_level_shaped f z s = elim (has_inside rel f) as (λ t. shaped (if t then inside_first keep rel change f else change f) ≡ true) [
      | true ↦ inside_first_shaped f z s
      | false ↦ changed f z s
    ]

-- ---- one level

-- a region as a node has one name
pub one_name : (at : PlainSum) (a : ℕ) → is_size a ≡ true → is_formed (at ∷ []) a ≡ true
one_name at a e = and_from (is_size a) true e refl

selected_none : (test : Relation → Bool) (rel : PlainSum → ℕ → Relation) (at : PlainSum) (a : ℕ) (f : PlainForest) → count_at at a f ≡ 0 → count_at at a (selected test rel f) ≡ 0
selected_none test rel at a f z = omega (arith, z, count_at_weigh at a f, count_at_weigh at a (selected test rel f), selected_weigh (at_region at a) test rel f)

module _ (rel : PlainSum → ℕ → Relation) (at : PlainSum) (a : ℕ) (sized : is_size a ≡ true) where
  renewed_shaped : (v : Option PlainSum) (room : Bool) (f : PlainForest) → count_at at a f ≡ 0 → shaped f ≡ true → shaped (renewed rel at a v room f) ≡ true
  renewed_shaped v true f z s =
      insert_shaped at [] a v none (selected is_separate rel f) (one_name at a sized) refl (selected_shaped is_separate rel f s) (selected_none is_separate rel at a f z)
  renewed_shaped v false f z s = selected_shaped is_separate rel f s

  filled_shaped : (v : PlainSum) (f : PlainForest) → count_at at a f ≡ 0 → shaped f ≡ true → shaped (filled rel at a v f) ≡ true
  filled_shaped v f z s = elim (is_clear rel f) as (λ t. shaped (if t then insert (at ∷ []) a (Some v) (selected is_around rel f) (selected is_separate rel f) else f) ≡ true) [
    | true ↦
        insert_shaped at [] a (Some v) (selected is_around rel f) (selected is_separate rel f) (one_name at a sized) (selected_shaped is_around rel f s) (selected_shaped is_separate rel f s) (selected_none is_separate rel at a f z)
    | false ↦ s
  ]

  pub placed_shaped : (v : Option PlainSum) (room : Bool) (f : PlainForest) → count_at at a f ≡ 0 → shaped f ≡ true → shaped (placed rel at a v room f) ≡ true
  placed_shaped v room f z s = at_level_shaped false rel at a (renewed rel at a v room) (renewed_shaped v room) f z s

  pub filled_level_shaped : (v : PlainSum) (f : PlainForest) → count_at at a f ≡ 0 → shaped f ≡ true → shaped (at_level true rel (filled rel at a v) f) ≡ true
  filled_level_shaped v f z s = at_level_shaped true rel at a (filled rel at a v) (filled_shaped v) f z s

clear_precedes : (rs : List Region) (ns : List PlainSum) (b : ℕ) (f : PlainForest) → precedes ns b f ≡ true → precedes ns b (clear_values rs f) ≡ true
clear_precedes rs ns b none p = refl
clear_precedes rs ns b (cell ms c v under rest) p = p

pub clear_shaped : (rs : List Region) (f : PlainForest) → shaped f ≡ true → shaped (clear_values rs f) ≡ true
clear_shaped rs none s = refl
clear_shaped rs (cell ns b v under rest) s =
    let p = shaped_parts ns b v under rest s in
    shaped_from ns b (value_if (is_any_here rs ns b) v) (clear_values rs under) (clear_values rs rest) (record { formed = p.formed; first = clear_precedes rs ns b rest p.first; below = clear_shaped rs under p.below; others = clear_shaped rs rest p.others })
