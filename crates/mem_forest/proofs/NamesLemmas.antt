-- The names of a node, and the number of nodes at a region, once a symbol goes or a name comes.
use Rattle.std.proofs.Common.{◌≡◌, ℕ, ◌+◌, ◌≤◌, true, false, ◌&&◌, ◌||◌, List, [], ◌∷◌, length, Option, refl, sym, ap, ◌∙◌, arith}
use Rattle.std.specs.Prelude.{cond, not, nat_le, ◌==◌}
use Rattle.std.specs.Int.{from_bool}
use Rattle.std.specs.declared.cmp.Ordering.{Ordering}
use Rattle.std.specs.declared.cmp.Ordering.TheVariants.{Less, Equal, Greater}
use Rattle.std.specs.Ordering.{is_eq, is_lt}
use Rattle.std.proofs.lemmas.Bool.{and_parts, and_from, le-leb, leb-true}
use Rattle.sym_terms.specs.declared.kinds.Sym.{Sym}
use Rattle.sym_terms.specs.Plain.{PlainSum}
use Rattle.sym_terms.specs.Order.{sum_cmp}
use Rattle.sym_terms.specs.Codes.{sum_total}
use Rattle.sym_terms.specs.Mentions.{mentions}
use Rattle.mem_forest.specs.Plain.{PlainForest, none, cell}
use Rattle.mem_forest.specs.Search.{has_name}
use Rattle.mem_forest.specs.Shape.{is_size, ascending, are_names, is_formed}
use Rattle.mem_forest.specs.Forget.{unmentioned, unmentioned_value, insert_named, forget}
use Rattle.mem_forest.proofs.WeightLemmas.{weigh, at_region, insert_weigh}

less_from : (r : Ordering) → is_lt r ≡ true → r ≡ Less
less_from Less e = refl
less_from Equal e = absurd (cc)
less_from Greater e = absurd (cc)

below_trans : (n m l : PlainSum) → is_lt (sum_cmp n m) ≡ true → is_lt (sum_cmp m l) ≡ true → is_lt (sum_cmp n l) ≡ true
below_trans n m l e g = ap is_lt (sum_total.trans n m l (less_from (sum_cmp n m) e) (less_from (sum_cmp m l) g))

-- names without the second ascend
ascending_skip : (n m : PlainSum) (ms : List PlainSum) → ascending (n ∷ m ∷ ms) ≡ true → ascending (n ∷ ms) ≡ true
ascending_skip n m [] e = refl
ascending_skip n m (l ∷ ls) e =
    let p = and_parts (is_lt (sum_cmp n m)) (ascending (m ∷ l ∷ ls)) e in
    let q = and_parts (is_lt (sum_cmp m l)) (ascending (l ∷ ls)) p.1 in
    and_from (is_lt (sum_cmp n l)) (ascending (l ∷ ls)) (below_trans n m l p.0 q.0) q.1

pub ascending_tail : (n : PlainSum) (ms : List PlainSum) → ascending (n ∷ ms) ≡ true → ascending ms ≡ true
ascending_tail n [] e = refl
ascending_tail n (m ∷ ms) e = (and_parts (is_lt (sum_cmp n m)) (ascending (m ∷ ms)) e).1

-- ---- a symbol that goes

module _ (s : Sym) where
  ascending_behind : (n : PlainSum) (ms : List PlainSum) → ascending (n ∷ ms) ≡ true → ascending (n ∷ unmentioned s ms) ≡ true
  ascending_behind n [] e = refl
  ascending_behind n (m ∷ ms) e =
      let p = and_parts (is_lt (sum_cmp n m)) (ascending (m ∷ ms)) e in
      elim (mentions s m) as (λ t. ascending (n ∷ cond (not t) (m ∷ unmentioned s ms) (unmentioned s ms)) ≡ true) [
        | true ↦ ascending_behind n ms (ascending_skip n m ms e)
        | false ↦ and_from (is_lt (sum_cmp n m)) (ascending (m ∷ unmentioned s ms)) p.0 (ascending_behind m ms p.1)
      ]

  pub ascending_unmentioned : (ns : List PlainSum) → ascending ns ≡ true → ascending (unmentioned s ns) ≡ true
  ascending_unmentioned [] e = refl
  ascending_unmentioned (n ∷ ms) e =
      elim (mentions s n) as (λ t. ascending (cond (not t) (n ∷ unmentioned s ms) (unmentioned s ms)) ≡ true) [
        | true ↦ ascending_unmentioned ms (ascending_tail n ms e)
        | false ↦ ascending_behind n ms e
      ]

  pub length_unmentioned : (ns : List PlainSum) → length (unmentioned s ns) ≤ length ns
  length_unmentioned [] = omega arith
  length_unmentioned (n ∷ ns) = elim (mentions s n) as (λ t. length (cond (not t) (n ∷ unmentioned s ns) (unmentioned s ns)) ≤ length (n ∷ ns)) [
    | true ↦ omega (arith, length_unmentioned ns)
    | false ↦ omega (arith, length_unmentioned ns)
  ]

  -- a name that stays was there
  pub unmentioned_has : (at : PlainSum) (ns : List PlainSum) → has_name at (unmentioned s ns) ≡ true → has_name at ns ≡ true
  unmentioned_has at [] e = e
  unmentioned_has at (n ∷ ns) e =
      elim (is_eq (sum_cmp n at)) as (λ o. (has_name at (cond (not (mentions s n)) (n ∷ unmentioned s ns) (unmentioned s ns)) ≡ true) → (is_eq (sum_cmp n at) ≡ o) → (o || has_name at ns) ≡ true) [
        | true ↦ λ h q. refl
        | false ↦ λ h q. elim (mentions s n) as (λ t. has_name at (cond (not t) (n ∷ unmentioned s ns) (unmentioned s ns)) ≡ true → has_name at ns ≡ true) [
          | true ↦ λ g. unmentioned_has at ns g
          | false ↦ λ g. unmentioned_has at ns (ap (λ b. b || has_name at (unmentioned s ns)) (sym q) ∙ g)
        ] h
      ] e refl

  at_fewer : (at : PlainSum) (b : ℕ) (ns : List PlainSum) (c : ℕ) → at_region at b (unmentioned s ns) c ≤ at_region at b ns c
  at_fewer at b ns c =
      (elim (c == b) as (λ o. from_bool (o && has_name at (unmentioned s ns)) ≤ from_bool (o && has_name at ns)) [
        | true ↦ (elim (has_name at (unmentioned s ns)) as (λ t. has_name at (unmentioned s ns) ≡ t → from_bool t ≤ from_bool (has_name at ns)) [
          | true ↦ λ e. omega (arith, ap from_bool (unmentioned_has at ns e))
          | false ↦ λ e. omega arith
        ]) refl
        | false ↦ omega arith
      ])

  insert_named_weigh : (g : List PlainSum → ℕ → ℕ) (ns : List PlainSum) (b : ℕ) (v : Option PlainSum) (under f : PlainForest) → weigh g (insert_named ns b v under f) ≤ weigh g under + weigh g f + g ns b
  insert_named_weigh g [] b v under f = omega arith
  insert_named_weigh g (n ∷ ns) b v under f = omega (arith, insert_weigh g (n ∷ ns) b v under f)

  pub forget_weigh : (g : List PlainSum → ℕ → ℕ) → ((ns : List PlainSum) (b : ℕ) → g (unmentioned s ns) b ≤ g ns b) → (f : PlainForest) → weigh g (forget s f) ≤ weigh g f
  forget_weigh g less none = omega arith
  forget_weigh g less (cell ns b v under rest) =
      omega (arith, insert_named_weigh g (unmentioned s ns) b (unmentioned_value s v) (forget s under) (forget s rest), less ns b, forget_weigh g less under, forget_weigh g less rest)

  pub forget_at : (at : PlainSum) (b : ℕ) (f : PlainForest) → weigh (at_region at b) (forget s f) ≤ weigh (at_region at b) f
  forget_at at b f = forget_weigh (at_region at b) (λ ns c. at_fewer at b ns c) f

  -- names that stay are those of a node
  pub formed_unmentioned : (ns : List PlainSum) (b : ℕ) (n : PlainSum) (ms : List PlainSum) → is_formed ns b ≡ true → unmentioned s ns ≡ n ∷ ms → is_formed (unmentioned s ns) b ≡ true
  formed_unmentioned ns b n ms f e =
      let p = and_parts (is_size b) (are_names ns) f in
      let q = and_parts (nat_le 1 (length ns)) (nat_le (length ns) 8 && ascending ns) p.1 in
      let r = and_parts (nat_le (length ns) 8) (ascending ns) q.1 in
      and_from (is_size b) (are_names (unmentioned s ns)) p.0
      (and_from (nat_le 1 (length (unmentioned s ns))) (nat_le (length (unmentioned s ns)) 8 && ascending (unmentioned s ns)) (le-leb 1 (length (unmentioned s ns)) (omega (arith, ap length e)))
      (and_from (nat_le (length (unmentioned s ns)) 8) (ascending (unmentioned s ns)) (le-leb (length (unmentioned s ns)) 8 (omega (arith, length_unmentioned ns, leb-true (length ns) 8 r.0)))
      (ascending_unmentioned ns r.1)))
