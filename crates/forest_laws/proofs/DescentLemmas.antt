-- What a rule does down to one node, or to one level, keeps what a forest says.
use Rattle.std.proofs.Common.{◌≡◌, ℕ, ◌<◌, ◌≤◌, ◌^◌, inl, inr, Bool, true, false, ◌||◌, List, Option, refl, sym, subst}
use Rattle.std.specs.Prelude.{IsTrue, if◌then◌else◌}
use Rattle.std.proofs.lemmas.Bool.{or_cases}
use Rattle.sym_terms.specs.Plain.{PlainSum}
use Rattle.sym_terms.specs.Value.{Valuation, value}
use Rattle.memory_regions.specs.declared.region.Relation.{Relation}
use Rattle.mem_forest.specs.Plain.{PlainForest, none, cell}
use Rattle.mem_forest.specs.Shape.{is_size}
use Rattle.mem_forest.specs.Search.{is_here, found}
use Rattle.mem_forest.specs.Levels.{related, is_separate, is_inside, selected, has_inside, value_if, nodes_if, written, inside_first, at_level}
use Rattle.x86_machine.specs.Memory.{loaded}
use Rattle.forest_meaning.specs.Separate.{past, Separate, Within}
use Rattle.forest_meaning.specs.Holds.{Tells, address, EachNode, NodeHolds, Holds}
use Rattle.forest_laws.proofs.AddressLemmas.{some_bytes, address_below, value_below, each_map, apart_within, apart_sym}
use Rattle.forest_laws.proofs.RelationLemmas.{here_bytes, here_at, IsTrueRelation, separate_tells, inside_tells}
use Rattle.forest_laws.proofs.LevelLemmas.{IsClosed, within_closed, apart_closed, found_at, kept}

later : (p q r : Bool) → p ≡ false → q ≡ false → (p || (q || r)) ≡ true → r ≡ true
later true q r e f h = absurd (cc)
later false true r e f h = absurd (cc)
later false false r e f h = h

later_one : (p r : Bool) → p ≡ false → (p || r) ≡ true → r ≡ true
later_one true r e h = absurd (cc)
later_one false r e h = h

-- nodes that stay or go are each so
nodes_if_each : (u : Valuation) (P : ℕ → ℕ → Type 0) (keep : Bool) (f : PlainForest) → EachNode u P f → EachNode u P (nodes_if keep f)
nodes_if_each u P true f e = e
nodes_if_each u P false f e = tt

-- the regions of a level stay as they are
module _ (u : Valuation) (P : ℕ → ℕ → Type 0) (keep : Bool) where
  pub written_each : (at : PlainSum) (a : ℕ) (v : Option PlainSum) (f : PlainForest) → EachNode u P f → EachNode u P (written keep at a v f)
  written_each at a v none e = tt
  written_each at a v (cell ns b w under rest) e =
      elim (is_here at a ns b) as (λ t. EachNode u P (if t then cell ns b v (nodes_if keep under) rest
      else if found at a under then cell ns b (value_if keep w) (written keep at a v under) rest else cell ns b w under (written keep at a v rest))) [
        | true ↦ e
        | false ↦ elim (found at a under) as (λ t. EachNode u P (if t then cell ns b (value_if keep w) (written keep at a v under) rest else cell ns b w under (written keep at a v rest))) [
          | true ↦ e
          | false ↦ (e.0, written_each at a v rest e.1)
        ]
      ]

  module _ (rel : PlainSum → ℕ → Relation) (change : PlainForest → PlainForest) where
    pub inside_first_each : (f : PlainForest) → EachNode u P f → EachNode u P (inside_first keep rel change f)
    inside_first_each none e = tt
    inside_first_each (cell ns b w under rest) e =
        elim (is_inside (related rel ns b)) as (λ t. EachNode u P (if t then cell ns b (value_if keep w) (if has_inside rel under then inside_first keep rel change under else change under) rest
        else cell ns b w under (inside_first keep rel change rest))) [
          | true ↦ e
          | false ↦ (e.0, inside_first_each rest e.1)
        ]

    -- where the change keeps a level so
    pub at_level_each : ((f : PlainForest) → EachNode u P f → EachNode u P (change f)) → (f : PlainForest) → EachNode u P f → EachNode u P (at_level keep rel change f)
    at_level_each changed f e = elim (has_inside rel f) as (λ t. EachNode u P (if t then inside_first keep rel change f else change f)) [
      | true ↦ inside_first_each f e
      | false ↦ changed f e
    ]

-- a bytes at a term are read or written: two memories differ at most there, the second has a value there, and a value
-- that is kept above the region is still that in the bytes
pub record Touches (m m' : ℕ → ℕ) (u : Valuation) (at : PlainSum) (a : ℕ) (keep : Bool) : Type 0 where
  pub sized : IsTrue (is_size a)
  pub differs : (p : ℕ) → p < 2 ^ 64 → a ≤ past (value u at) p → m' p ≡ m p
  pub above : (y b : ℕ) (w : Option PlainSum) → Tells u w (loaded m b y) → Tells u (value_if keep w) (loaded m' b y)
  pub below : (f : PlainForest) → Holds m u f → Holds m' u (nodes_if keep f)

module _ (m m' : ℕ → ℕ) (u : Valuation) (at : PlainSum) (a : ℕ) (keep : Bool) (touches : Touches m m' u at a keep) where
  -- what is separate from the region holds after it
  pub kept_here : (f : PlainForest) → Holds m u f → EachNode u (λ y c. Separate (value u at) a y c) f → Holds m' u f
  kept_here = kept m m' u (value u at) a (value_below u at) touches.differs

  -- what is separate from a node is separate from a region in that node
  beside : (y b : ℕ) → y < 2 ^ 64 → (rest : PlainForest) → Within (value u at) a y b → EachNode u (λ z c. Separate y b z c) rest → EachNode u (λ z c. Separate (value u at) a z c) rest
  beside y b hy rest w = each_map u (λ z c. Separate y b z c) (λ z c. Separate (value u at) a z c) rest
      (λ z c hz p. apart_sym _ _ _ _ (apart_within z c y b (value u at) a hz hy (value_below u at) (some_bytes a touches.sized) (apart_sym _ _ _ _ p) w))

  -- a node that is separate from the region, with those under it, holds after it
  one_kept : (ns : List PlainSum) (b : ℕ) (w : Option PlainSum) (under rest : PlainForest) → NodeHolds m u ns b w under rest → Holds m u under → Separate (address u ns) b (value u at) a
      → NodeHolds m' u ns b w under none × Holds m' u under
  one_kept ns b w under rest s h p =
      let k = kept_here (cell ns b w under none) (record { sized = s.sized; named = s.named; valued = s.valued; inside = s.inside; separate = tt }, h, tt) (apart_sym _ _ _ _ p, tt) in
      (k.0, k.1)

  -- a write to a node that is found holds, where the value is the number in the region's bytes
  pub written_holds : (v : Option PlainSum) → Tells u v (loaded m' a (value u at)) → (f : PlainForest) → Holds m u f → found at a f ≡ true → Holds m' u (written keep at a v f)
  written_holds v stored none h t = absurd (cc)
  written_holds v stored (cell ns b w under rest) h t =
      (elim (is_here at a ns b) as (λ o. is_here at a ns b ≡ o → Holds m' u (if o then cell ns b v (nodes_if keep under) rest
      else if found at a under then cell ns b (value_if keep w) (written keep at a v under) rest else cell ns b w under (written keep at a v rest))) [
        | true ↦ λ e.
            let ex : address u ns ≡ value u at = here_at u at a ns b h.0.named e in
            let eb : b ≡ a = here_bytes at a ns b e in
            let apart : EachNode u (λ z c. Separate (value u at) a z c) rest = subst (λ k. EachNode u (λ z c. Separate k a z c) rest) ex (subst (λ k. EachNode u (λ z c. Separate (address u ns) k z c) rest) eb h.0.separate) in (
              record {
                sized = h.0.sized;
                named = h.0.named;
                valued = subst (λ k. Tells u v (loaded m' b k)) (sym ex) (subst (λ k. Tells u v (loaded m' k (value u at))) (sym eb) stored);
                inside = nodes_if_each u (λ z c. Within z c (address u ns) b) keep under h.0.inside;
                separate = h.0.separate;
              },
              touches.below under h.1,
              kept_here rest h.2 apart,
            )
        | false ↦ λ e. (elim (found at a under) as (λ o. found at a under ≡ o → Holds m' u (if o then cell ns b (value_if keep w) (written keep at a v under) rest else cell ns b w under (written keep at a v rest))) [
          | true ↦ λ g.
              let in_node : Within (value u at) a (address u ns) b = found_at m u (λ z c. Within z c (address u ns) b) (within_closed (address u ns) b (address_below u ns)) at a under h.1 h.0.inside g in (
                record {
                  sized = h.0.sized;
                  named = h.0.named;
                  valued = touches.above (address u ns) b w h.0.valued;
                  inside = written_each u (λ z c. Within z c (address u ns) b) keep at a v under h.0.inside;
                  separate = h.0.separate;
                },
                written_holds v stored under h.1 g,
                kept_here rest h.2 (beside (address u ns) b (address_below u ns) rest in_node h.0.separate),
              )
          | false ↦ λ g.
              let r : found at a rest ≡ true = later (is_here at a ns b) (found at a under) (found at a rest) e g t in
              let p : Separate (address u ns) b (value u at) a = found_at m u (λ z c. Separate (address u ns) b z c) (apart_closed (address u ns) b (address_below u ns)) at a rest h.2 h.0.separate r in
              let k = one_kept ns b w under rest h.0 h.1 p in (
                record { sized = k.0.sized; named = k.0.named; valued = k.0.valued; inside = k.0.inside; separate = written_each u (λ z c. Separate (address u ns) b z c) keep at a v rest h.0.separate },
                k.1,
                written_holds v stored rest h.2 r,
              )
        ]) refl
      ]) refl

  module _ (rel : PlainSum → ℕ → Relation) (is_true : IsTrueRelation u (value u at) a rel) where
    -- the nodes of a level that are Separate from the region are separate from it
    pub separate_apart : (f : PlainForest) → Holds m u f → EachNode u (λ y c. Separate (value u at) a y c) (selected is_separate rel f)
    separate_apart none h = tt
    separate_apart (cell ns b w under rest) h =
        (elim (is_separate (related rel ns b)) as (λ o. is_separate (related rel ns b) ≡ o → EachNode u (λ y c. Separate (value u at) a y c) (if o then cell ns b w under (selected is_separate rel rest) else selected is_separate rel rest)) [
          | true ↦ λ e. (separate_tells u (value u at) a (value_below u at) rel is_true ns b (some_bytes b h.0.sized) h.0.named e, separate_apart rest h.2)
          | false ↦ λ e. separate_apart rest h.2
        ]) refl

    -- what is true of each node of a level is true of a region in one of them
    inside_at : (P : ℕ → ℕ → Type 0) → IsClosed P → (f : PlainForest) → Holds m u f → EachNode u P f → has_inside rel f ≡ true → P (value u at) a
    inside_at P closed none h e t = absurd (cc)
    inside_at P closed (cell ns b w under rest) h e t = elim (or_cases (is_inside (related rel ns b)) (has_inside rel rest) t) [
      | inl p ↦ closed (address u ns) b (value u at) a (address_below u ns) (value_below u at) (some_bytes a touches.sized) e.0 (inside_tells u (value u at) a (value_below u at) rel is_true ns b (some_bytes b h.0.sized) h.0.named p)
      | inr p ↦ inside_at P closed rest h.2 e.1 p
    ]

    module _
        (change : PlainForest → PlainForest)
        (changed_holds : (f : PlainForest) → Holds m u f → Holds m' u (change f))
        (changed_each : (P : ℕ → ℕ → Type 0) (f : PlainForest) → P (value u at) a → EachNode u P f → EachNode u P (change f)) where
      inside_first_holds : (f : PlainForest) → Holds m u f → has_inside rel f ≡ true → Holds m' u (inside_first keep rel change f)
      inside_first_holds none h t = absurd (cc)
      inside_first_holds (cell ns b w under rest) h t =
          (elim (is_inside (related rel ns b)) as (λ o. is_inside (related rel ns b) ≡ o → Holds m' u (if o then cell ns b (value_if keep w) (if has_inside rel under then inside_first keep rel change under else change under) rest
          else cell ns b w under (inside_first keep rel change rest))) [
            | true ↦ λ e.
                let in_node : Within (value u at) a (address u ns) b = inside_tells u (value u at) a (value_below u at) rel is_true ns b (some_bytes b h.0.sized) h.0.named e in
                let held : Holds m' u rest = kept_here rest h.2 (beside (address u ns) b (address_below u ns) rest in_node h.0.separate) in
                (elim (has_inside rel under) as (λ o. has_inside rel under ≡ o → Holds m' u (cell ns b (value_if keep w) (if o then inside_first keep rel change under else change under) rest)) [
                  | true ↦ λ g. (
                    record {
                      sized = h.0.sized;
                      named = h.0.named;
                      valued = touches.above (address u ns) b w h.0.valued;
                      inside = inside_first_each u (λ z c. Within z c (address u ns) b) keep rel change under h.0.inside;
                      separate = h.0.separate;
                    },
                    inside_first_holds under h.1 g,
                    held,
                  )
                  | false ↦ λ g. (
                    record {
                      sized = h.0.sized;
                      named = h.0.named;
                      valued = touches.above (address u ns) b w h.0.valued;
                      inside = changed_each (λ z c. Within z c (address u ns) b) under in_node h.0.inside;
                      separate = h.0.separate;
                    },
                    changed_holds under h.1,
                    held,
                  )
                ]) refl
            | false ↦ λ e.
                let r : has_inside rel rest ≡ true = later_one (is_inside (related rel ns b)) (has_inside rel rest) e t in
                let p : Separate (address u ns) b (value u at) a = inside_at (λ z c. Separate (address u ns) b z c) (apart_closed (address u ns) b (address_below u ns)) rest h.2 h.0.separate r in
                let k = one_kept ns b w under rest h.0 h.1 p in (
                  record { sized = k.0.sized; named = k.0.named; valued = k.0.valued; inside = k.0.inside; separate = inside_first_each u (λ z c. Separate (address u ns) b z c) keep rel change rest h.0.separate },
                  k.1,
                  inside_first_holds rest h.2 r,
                )
          ]) refl

      -- a change of the level where the region belongs holds, where the change holds of each level and its regions stay
      pub at_level_holds : (f : PlainForest) → Holds m u f → Holds m' u (at_level keep rel change f)
      at_level_holds f h = (elim (has_inside rel f) as (λ o. has_inside rel f ≡ o → Holds m' u (if o then inside_first keep rel change f else change f)) [
        | true ↦ λ e. inside_first_holds f h e
        | false ↦ λ e. changed_holds f h
      ]) refl
