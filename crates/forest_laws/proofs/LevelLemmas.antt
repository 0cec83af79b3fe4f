-- Levels of a forest that hold: where a node comes, goes or is found.
use Rattle.std.proofs.Common.{◌≡◌, ℕ, ◌<◌, ◌≤◌, ◌^◌, inl, inr, Bool, true, false, ◌||◌, List, Option, sym, subst}
use Rattle.std.specs.Prelude.{if◌then◌else◌}
use Rattle.std.proofs.lemmas.Bool.{or_cases}
use Rattle.sym_terms.specs.Plain.{PlainSum}
use Rattle.sym_terms.specs.Value.{Valuation, value}
use Rattle.memory_regions.specs.declared.region.Relation.{Relation}
use Rattle.mem_forest.specs.Plain.{PlainForest, none, cell}
use Rattle.mem_forest.specs.Shape.{comes_before}
use Rattle.mem_forest.specs.Search.{is_here, found}
use Rattle.mem_forest.specs.Levels.{related, selected, insert}
use Rattle.x86_machine.specs.Memory.{loaded}
use Rattle.forest_meaning.specs.Separate.{past, Separate, Within}
use Rattle.forest_meaning.specs.Holds.{Tells, address, EachNode, Holds}
use Rattle.forest_laws.proofs.AddressLemmas.{some_bytes, address_below, number_kept, apart_within, apart_sym, within_trans}
use Rattle.forest_laws.proofs.RelationLemmas.{here_bytes, here_at}

module _ (u : Valuation) (P : ℕ → ℕ → Type 0) where
  -- where a node comes
  pub insert_each : (ns : List PlainSum) (b : ℕ) (v : Option PlainSum) (under f : PlainForest) → P (address u ns) b → EachNode u P f → EachNode u P (insert ns b v under f)
  insert_each ns b v under none p e = (p, tt)
  insert_each ns b v under (cell ms c w below rest) p e =
      elim (comes_before ns b ms c) as (λ t. EachNode u P (if t then cell ns b v under (cell ms c w below rest) else cell ms c w below (insert ns b v under rest))) [
        | true ↦ (p, e)
        | false ↦ (e.0, insert_each ns b v under rest p e.1)
      ]

  -- where some nodes of a level go
  pub selected_each : (test : Relation → Bool) (rel : PlainSum → ℕ → Relation) (f : PlainForest) → EachNode u P f → EachNode u P (selected test rel f)
  selected_each test rel none e = tt
  selected_each test rel (cell ns b w under rest) e =
      elim (test (related rel ns b)) as (λ t. EachNode u P (if t then cell ns b w under (selected test rel rest) else selected test rel rest)) [
        | true ↦ (e.0, selected_each test rel rest e.1)
        | false ↦ selected_each test rel rest e.1
      ]

-- where some nodes of a level go, the others hold
pub selected_holds : (m : ℕ → ℕ) (u : Valuation) (test : Relation → Bool) (rel : PlainSum → ℕ → Relation) (f : PlainForest) → Holds m u f → Holds m u (selected test rel f)
selected_holds m u test rel none h = tt
selected_holds m u test rel (cell ns b w under rest) h =
    elim (test (related rel ns b)) as (λ t. Holds m u (if t then cell ns b w under (selected test rel rest) else selected test rel rest)) [
      | true ↦ (
        record { sized = h.0.sized; named = h.0.named; valued = h.0.valued; inside = h.0.inside; separate = selected_each u (λ z c. Separate (address u ns) b z c) test rel rest h.0.separate },
        h.1,
        selected_holds m u test rel rest h.2,
      )
      | false ↦ selected_holds m u test rel rest h.2
    ]

-- a node is put in its place among its siblings
pub insert_holds : (m : ℕ → ℕ) (u : Valuation) (ns : List PlainSum) (b : ℕ) (v : Option PlainSum) (under f : PlainForest) → Holds m u (cell ns b v under f) → Holds m u (insert ns b v under f)
insert_holds m u ns b v under none h = h
insert_holds m u ns b v under (cell ms c w below rest) h =
    elim (comes_before ns b ms c) as (λ t. Holds m u (if t then cell ns b v under (cell ms c w below rest) else cell ms c w below (insert ns b v under rest))) [
      | true ↦ h
      | false ↦ (
        record {
          sized = h.2.0.sized;
          named = h.2.0.named;
          valued = h.2.0.valued;
          inside = h.2.0.inside;
          separate = insert_each u (λ y d. Separate (address u ms) c y d) ns b v under rest (apart_sym _ _ _ _ h.0.separate.0) h.2.0.separate;
        },
        h.2.1,
        insert_holds m u ns b v under rest (record { sized = h.0.sized; named = h.0.named; valued = h.0.valued; inside = h.0.inside; separate = h.0.separate.1 }, h.1, h.2.2),
      )
    ]

-- P goes from a region to each that lies within it
abbrev pub IsClosed : (ℕ → ℕ → Type 0) → Type 0
IsClosed P = (y c z d : ℕ) → y < 2 ^ 64 → z < 2 ^ 64 → 1 ≤ d → P y c → Within z d y c → P z d

pub within_closed : (x a : ℕ) → x < 2 ^ 64 → IsClosed (λ y c. Within y c x a)
within_closed x a hx y c z d hy hz s p w = within_trans z d y c x a hz hy hx w p

pub apart_closed : (x a : ℕ) → x < 2 ^ 64 → IsClosed (λ y c. Separate x a y c)
apart_closed x a hx y c z d hy hz s p w = apart_within x a y c z d hx hy hz s p w

-- what is true of each node of a level is true of each below it
each_under : (m : ℕ → ℕ) (u : Valuation) (P : ℕ → ℕ → Type 0) → IsClosed P → (y b : ℕ) → y < 2 ^ 64 → P y b → (f : PlainForest) → Holds m u f → EachNode u (λ z c. Within z c y b) f → EachNode u P f
each_under m u P closed y b hy p none h e = tt
each_under m u P closed y b hy p (cell ns c v under rest) h e =
    (closed y b (address u ns) c hy (address_below u ns) (some_bytes c h.0.sized) p e.0, each_under m u P closed y b hy p rest h.2 e.1)

pub found_at : (m : ℕ → ℕ) (u : Valuation) (P : ℕ → ℕ → Type 0) → IsClosed P → (at : PlainSum) (a : ℕ) (f : PlainForest) → Holds m u f → EachNode u P f → found at a f ≡ true → P (value u at) a
found_at m u P closed at a none h e t = absurd (cc)
found_at m u P closed at a (cell ns b v under rest) h e t = elim (or_cases (is_here at a ns b) (found at a under || found at a rest) t) [
  | inl p ↦ subst (λ y. P y a) (here_at u at a ns b h.0.named p) (subst (λ c. P (address u ns) c) (here_bytes at a ns b p) e.0)
  | inr q ↦ elim (or_cases (found at a under) (found at a rest) q) [
    | inl p ↦ found_at m u P closed at a under h.1 (each_under m u P closed (address u ns) b (address_below u ns) e.0 under h.1 h.0.inside) p
    | inr p ↦ found_at m u P closed at a rest h.2 e.1 p
  ]
]

-- two memories that differ at most in a bytes at x
module _ (m m' : ℕ → ℕ) (u : Valuation) (x a : ℕ) (hx : x < 2 ^ 64) (differs : (p : ℕ) → p < 2 ^ 64 → a ≤ past x p → m' p ≡ m p) where
  value_kept : (y b : ℕ) (v : Option PlainSum) → y < 2 ^ 64 → Separate x a y b → Tells u v (loaded m b y) → Tells u v (loaded m' b y)
  value_kept y b v hy p n = subst (λ k. Tells u v k) (sym (number_kept m m' x a hx differs y b hy p)) n

  -- what is apart from these bytes stands
  pub kept : (f : PlainForest) → Holds m u f → EachNode u (λ y c. Separate x a y c) f → Holds m' u f
  kept none h e = tt
  kept (cell ns b v under rest) h e = (
    record { sized = h.0.sized; named = h.0.named; valued = value_kept (address u ns) b v (address_below u ns) e.0 h.0.valued; inside = h.0.inside; separate = h.0.separate },
    kept under h.1 (each_under m u (λ y c. Separate x a y c) (apart_closed x a hx) (address u ns) b (address_below u ns) e.0 under h.1 h.0.inside),
    kept rest h.2 e.1,
  )
