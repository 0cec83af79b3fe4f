-- The laws of entailment and weakening of all plain data.
use Rattle.std.proofs.Common.{◌≡◌, ◌<◌, ◌⊎◌, ◌+◌, ℕ, zero, suc, true, false, ◌&&◌, ◌||◌, not, List, [], ◌∷◌, length, slice_get, refl, sym, ap, ◌∙◌, subst, inl, inr, arith}
use Rattle.std.specs.Prelude.{◌==◌, nat_le, is_none, is_some, IsNone, Option, Some, None, replicate}
use Rattle.std.proofs.lemmas.Bool.{and_parts, and_from, cases_Bool, eqb-true, eq-eqb, le-leb}
use Rattle.sym_terms.specs.Plain.{PlainSum}
use Rattle.mem_forest.specs.Plain.{PlainForest, none, PlainNode, count}
use Rattle.mem_forest.specs.Shape.{shaped, IsForest, left_after, all_alone}
use Rattle.mem_forest.proofs.SingleLemmas.{forest_from, forest_alone}
use Rattle.mem_forest.proofs.WeakenLemmas.{weakened_forest}
use Rattle.predicates.specs.Limits.{registers}
use Rattle.predicates.specs.Predicate.{Predicate}
use Rattle.predicates.specs.Missing.{missing}
use Rattle.predicates.specs.Entails.{Entails}
use Rattle.predicates.specs.Places.{node_under}
use Rattle.predicates.specs.Weaken.{weaken}
use Rattle.predicates.specs.Weight.{weight_of}
use Rattle.predicates.proofs.DecidedLemmas.{decided}
use Rattle.predicates.proofs.WeakenLemmas.{as_many}
use Rattle.entailment_laws.proofs.LawLemmas.{reflexive, transitive}
use Rattle.entailment_laws.proofs.WeakenLemmas.{own, other}
use Rattle.image_steps.specs.Shaped.{is_forest, is_shaped, nothing, entails, weakened, weight}
use Rattle.image_steps.specs.Falls.{weaken_falls}

-- what passes the tests has 16 registers and a forest
pub record HasShape (p : Predicate) : Type 0 where
  pub sixteen : length p.regs ≡ registers
  pub forest : IsForest p.forest

left_some : (room n : ℕ) (f : PlainForest) → nat_le (count f) room ≡ true → is_some (left_after room f) ≡ true
left_some room n f e = rw e refl

pub shape_of : (p : Predicate) → is_shaped p ≡ true → HasShape p
shape_of p e =
    let a = and_parts (length p.regs == registers) (is_forest p.forest) e in
    let b = and_parts (nat_le (count p.forest) 64) (shaped p.forest && all_alone p.forest p.forest) a.1 in
    let c = and_parts (shaped p.forest) (all_alone p.forest p.forest) b.1 in
    record { sixteen = eqb-true (length p.regs) registers a.0; forest = forest_from p.forest (left_some 64 0 p.forest b.0) c.0 c.1 }

pub shaped_by : (p : Predicate) → HasShape p → is_shaped p ≡ true
shaped_by p h =
    and_from (length p.regs == registers) (is_forest p.forest) (eq-eqb (length p.regs) registers h.sixteen)
    (and_from (nat_le (count p.forest) 64) (shaped p.forest && all_alone p.forest p.forest) (le-leb (count p.forest) 64 h.forest.few)
    (and_from (shaped p.forest) (all_alone p.forest p.forest) h.forest.in_form (forest_alone p.forest h.forest)))

none_by : {A : Type 0} (o : Option A) → IsNone o → is_none o ≡ true
none_by None h = refl
none_by (Some x) h = absurd (let f : ⊥ = cc in f)

none_of : {A : Type 0} (o : Option A) → is_none o ≡ true → IsNone o
none_of None e = refl
none_of (Some x) e = absurd (let f : ⊥ = cc in f)

pub entails_by : (p q : Predicate) → (is_shaped p ≡ true → (is_shaped q ≡ true) × Entails p q) → entails p q ≡ true
entails_by p q h =
    elim (is_shaped p) as (λ b. is_shaped p ≡ b → (not b || (is_shaped q && is_none (missing p q))) ≡ true) [
      | false ↦ λ e. refl
      | true ↦ λ e.
          let w = h e in
          let s = shape_of p e in
          let t = shape_of q w.0 in
          and_from (is_shaped q) (is_none (missing p q)) w.0
          (none_by (missing p q) ((decided p q (s.sixteen ∙ sym t.sixteen) t.forest).1 w.1))
    ] refl

pub entails_to : (p q : Predicate) → entails p q ≡ true → is_shaped p ≡ true → (is_shaped q ≡ true) × Entails p q
entails_to p q h e =
    let k : (is_shaped q && is_none (missing p q)) ≡ true = subst (λ b. (not b || (is_shaped q && is_none (missing p q))) ≡ true) e h in
    let w = and_parts (is_shaped q) (is_none (missing p q)) k in
    let s = shape_of p e in
    let t = shape_of q w.0 in
    (w.0, (decided p q (s.sixteen ∙ sym t.sixteen) t.forest).0 (none_of (missing p q) w.1))

weaken_shaped : (p q : Predicate) → is_shaped p ≡ true → is_shaped (weaken p q) ≡ true
weaken_shaped p q e =
    let s = shape_of p e in
    shaped_by (weaken p q) (record { sixteen = as_many q.regs p.regs ∙ s.sixteen; forest = weakened_forest q.forest p.forest s.forest })

pub entails_itself : (p : Predicate) → entails p p ≡ true
entails_itself p = entails_by p p (λ e. (e, reflexive p))

pub entails_through : (p q r : Predicate) → entails p q ≡ true → entails q r ≡ true → entails p r ≡ true
entails_through p q r h k = entails_by p r (λ e.
    let a = entails_to p q h e in
    let b = entails_to q r k a.0 in
    (b.0, transitive p q r a.1 b.1))

pub weakened_both : (p q : Predicate) → is_shaped q ≡ true → is_shaped p ≡ true → weakened p q ≡ weaken p q
weakened_both p q f e = rw f (rw e refl)

weakened_other : (p q : Predicate) → is_shaped q ≡ true → is_shaped p ≡ false → weakened p q ≡ nothing
weakened_other p q f e = rw f (rw e refl)

weakened_own : (p q : Predicate) → is_shaped q ≡ false → weakened p q ≡ p
weakened_own p q f = rw f refl

nothing_shaped : is_shaped nothing ≡ true
nothing_shaped = refl

none_known : (n r : ℕ) (t : PlainSum) → slice_get (replicate n None) r ≡ Some (Some t) → ⊥
none_known zero r t h = let f : ⊥ = cc in f
none_known (suc n) zero t h = let f : ⊥ = cc in f
none_known (suc n) (suc r) t h = none_known n r t h

no_node : (parents : List (PlainSum × ℕ)) (at : PlainSum) (bytes : ℕ) (c : PlainNode) → node_under parents at bytes none ≡ Some c → ⊥
no_node [] at bytes c h = let f : ⊥ = cc in f
no_node (k ∷ ks) at bytes c h = let f : ⊥ = cc in f

nothing_missing : (p : Predicate) → Entails p nothing
nothing_missing p = record {
  registers = λ r t h. absurd (none_known registers r t h);
  flags = λ f h. absurd (let g : ⊥ = cc in g);
  bounds = λ b h. absurd (omega (arith, h.1));
  cells = λ parents at bytes c h. absurd (no_node parents at bytes c h);
}

pub entails_kept : (p q : Predicate) → entails p (weakened p q) ≡ true
entails_kept p q = elim (cases_Bool (is_shaped q)) as (λ _. entails p (weakened p q) ≡ true) [
  | inl f ↦ entails_by p (weakened p q) (λ e. subst (λ x. (is_shaped x ≡ true) × Entails p x) (sym (weakened_both p q f e)) (weaken_shaped p q e, own p q (shape_of p e).forest))
  | inr f ↦ subst (λ x. entails p x ≡ true) (sym (weakened_own p q f)) (entails_itself p)
]

follows_shaped : (p q : Predicate) → is_shaped q ≡ true → (is_shaped (weakened p q) ≡ true) × Entails q (weakened p q)
follows_shaped p q f = elim (cases_Bool (is_shaped p)) as (λ _. (is_shaped (weakened p q) ≡ true) × Entails q (weakened p q)) [
  | inl e ↦ subst (λ x. (is_shaped x ≡ true) × Entails q x) (sym (weakened_both p q f e)) (weaken_shaped p q e, other p q)
  | inr e ↦ subst (λ x. (is_shaped x ≡ true) × Entails q x) (sym (weakened_other p q f e)) (nothing_shaped, nothing_missing q)
]

pub entails_follows : (p q : Predicate) → entails q (weakened p q) ≡ true
entails_follows p q = entails_by q (weakened p q) (follows_shaped p q)

weight_in : (p : Predicate) → is_shaped p ≡ true → weight p ≡ weight_of p
weight_in p e = rw e refl

weight_out : (p : Predicate) → is_shaped p ≡ false → weight p ≡ weight_of p + 1
weight_out p e = rw e refl

falls_both : (p q : Predicate) → is_shaped q ≡ true → is_shaped p ≡ true → (weakened p q ≡ p) ⊎ (weight (weakened p q) < weight p)
falls_both p q f e =
    let same = weakened_both p q f e in
    elim (weaken_falls p q) as (λ _. (weakened p q ≡ p) ⊎ (weight (weakened p q) < weight p)) [
      | inl s ↦ inl (same ∙ s)
      | inr l ↦ inr (
          let a = ap weight same in
          let b = weight_in (weaken p q) (weaken_shaped p q e) in
          let c = weight_in p e in
          omega (arith, a, b, c, l))
    ]

pub weakened_falls : (p q : Predicate) → (weakened p q ≡ p) ⊎ (weight (weakened p q) < weight p)
weakened_falls p q = elim (cases_Bool (is_shaped q)) as (λ _. (weakened p q ≡ p) ⊎ (weight (weakened p q) < weight p)) [
  | inr f ↦ inl (weakened_own p q f)
  | inl f ↦ elim (cases_Bool (is_shaped p)) as (λ _. (weakened p q ≡ p) ⊎ (weight (weakened p q) < weight p)) [
    | inl e ↦ falls_both p q f e
    | inr e ↦ inr (
        let a = ap weight (weakened_other p q f e) in
        let b : weight nothing ≡ 0 = refl in
        let c = weight_out p e in
        omega (arith, a, b, c))
  ]
]
