-- A forest of which only the nodes stay that another says.
use Rattle.std.proofs.Common.{◌≡◌, ℕ, zero, suc, ◌+◌, ◌<◌, ◌≤◌, Bool, true, false, List, [], ◌∷◌, take, drop, length, Option, Some, None, slice_set, slice_index_or, refl, sym, ap, ap₂, ◌∙◌, arith}
use Rattle.std.proofs.lemmas.List.{take-set, drop-set}
use Rattle.std.specs.List.{remove}
use Rattle.sym_terms.specs.Plain.{PlainSum}
use Rattle.mem_forest.specs.Plain.{PlainForest, none, cell, PlainNode, cells, count}
use Rattle.mem_forest.specs.Search.{count_at}
use Rattle.mem_forest.specs.Shape.{is_formed, precedes, shaped, IsForest}
use Rattle.mem_forest.specs.Holders.{holder, weakened}
use Rattle.mem_forest.proofs.FrontLemmas.{one, cells_from}
use Rattle.mem_forest.proofs.ForgetLemmas.{take_fewer, get_fewer, drop-removed, take-removed}
use Rattle.mem_forest.proofs.WeightLemmas.{weigh}
use Rattle.mem_forest.proofs.ShapeLemmas.{shaped_parts, shaped_from, precedes_trans}
use Rattle.mem_forest.proofs.FormLemmas.{with_none}

-- ---- from the last node of a level on

module _ (held : PlainForest) (old xs : List PlainNode) (i : ℕ) (d z : PlainNode)
    (is_z : z ≡ slice_index_or xs i d) (within : i < length xs)
    (before : take (i + 1) xs ≡ take (i + 1) old) (inside : i < length old) (after : cells (drop (i + 1) xs) ≡ weakened held (cells (drop (i + 1) old))) where
  abbrev weakened_by : Option PlainNode → PlainForest
  weakened_by o = elim o as (λ o. PlainForest) [
    | Some c ↦ cell z.names z.bytes z.value (weakened c.under z.under) (cells (drop (i + 1) xs))
    | None ↦ cells (drop (i + 1) xs)
  ]

  weaken_from : (o : Option PlainNode) → holder held z.names z.bytes z.value ≡ o → weakened held (cells (drop i old)) ≡ weakened_by o
  weaken_from o e =
      ap (weakened held) (cells_from old i d z (is_z ∙ get_fewer xs old i (i + 1) d (omega arith) before) inside)
      ∙ ap (λ f. elim (holder held z.names z.bytes z.value) as (λ o. PlainForest) [ Some c ↦ cell z.names z.bytes z.value (weakened c.under z.under) f | None ↦ f ]) (sym after)
      ∙ ap weakened_by e

  -- a node with a holder stays
  pub weaken_stays : (c y : PlainNode) → holder held z.names z.bytes z.value ≡ Some c → y ≡ record { names = z.names; bytes = z.bytes; value = z.value; under = weakened c.under z.under }
      → cells (drop i (slice_set xs i y)) ≡ weakened held (cells (drop i old))
  weaken_stays c y e is_y =
      ap cells (drop-set xs i y within) ∙ ap (λ n. one n (cells (drop (i + 1) xs))) is_y ∙ sym (weaken_from (Some c) e)

  -- one without goes
  pub weaken_goes : holder held z.names z.bytes z.value ≡ None → cells (drop i (remove xs i)) ≡ weakened held (cells (drop i old))
  weaken_goes e = ap cells (drop-removed xs i) ∙ sym (weaken_from None e)

  pub still_before : take i xs ≡ take i old
  still_before = take_fewer xs old i (i + 1) (omega arith) before

-- ---- the form

weakened_weigh : (g : List PlainSum → ℕ → ℕ) (held f : PlainForest) → weigh g (weakened held f) ≤ weigh g f
weakened_weigh g held none = omega arith
weakened_weigh g held (cell ns b v under rest) =
    elim (holder held ns b v) as (λ o. weigh g (elim o as (λ o. PlainForest) [ Some c ↦ cell ns b v (weakened c.under under) (weakened held rest) | None ↦ weakened held rest ]) ≤ weigh g (cell ns b v under rest)) [
      | Some c ↦ omega (arith, weakened_weigh g c.under under, weakened_weigh g held rest)
      | None ↦ omega (arith, weakened_weigh g held rest)
    ]

weakened_precedes : (held : PlainForest) (ns : List PlainSum) (b : ℕ) (f : PlainForest) → is_formed ns b ≡ true → shaped f ≡ true → precedes ns b f ≡ true → precedes ns b (weakened held f) ≡ true
weakened_precedes held ns b none g s p = refl
weakened_precedes held ns b (cell ms c v under rest) g s p =
    let t = shaped_parts ms c v under rest s in
    elim (holder held ms c v) as (λ o. precedes ns b (elim o as (λ o. PlainForest) [ Some n ↦ cell ms c v (weakened n.under under) (weakened held rest) | None ↦ weakened held rest ]) ≡ true) [
      | Some n ↦ p
      | None ↦ weakened_precedes held ns b rest g t.others (precedes_trans ns ms b c rest g t.formed p t.others t.first)
    ]

weakened_shaped : (held f : PlainForest) → shaped f ≡ true → shaped (weakened held f) ≡ true
weakened_shaped held none s = refl
weakened_shaped held (cell ns b v under rest) s =
    let t = shaped_parts ns b v under rest s in
    elim (holder held ns b v) as (λ o. shaped (elim o as (λ o. PlainForest) [ Some c ↦ cell ns b v (weakened c.under under) (weakened held rest) | None ↦ weakened held rest ]) ≡ true) [
      | Some c ↦ shaped_from ns b v (weakened c.under under) (weakened held rest) (record {
        formed = t.formed;
        first = weakened_precedes held ns b rest t.formed t.others t.first;
        below = weakened_shaped c.under under t.below;
        others = weakened_shaped held rest t.others;
      })
      | None ↦ weakened_shaped held rest t.others
    ]

-- what stays is a forest
pub weakened_forest : (held f : PlainForest) → IsForest f → IsForest (weakened held f)
weakened_forest held f h = with_none f (weakened held f) h (weakened_shaped held f h.in_form) (λ w. weakened_weigh w held f)
