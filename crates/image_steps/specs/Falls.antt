-- What is weakened is as it was, or has fewer conjuncts.
use Rattle.std.proofs.Common.{◌≡◌, ◌<◌, ◌≤◌, ◌⊎◌, ℕ, Bool, true, false, cond, List, [], ◌∷◌, length, filter, refl, ap, ◌∙◌, inl, inr, arith}
use Rattle.std.specs.Prelude.{if◌then◌else◌, Option, Some, None, is_some}
use Rattle.std.specs.Int.{from_bool}
use Rattle.sym_terms.specs.Plain.{PlainSum}
use Rattle.mem_forest.specs.Plain.{PlainForest, none, cell, count}
use Rattle.mem_forest.specs.Holders.{holder, weakened}
use Rattle.predicates.specs.declared.bound.FlagFact.{FlagFact}
use Rattle.predicates.specs.declared.bound.Bound.{Bound}
use Rattle.predicates.specs.Holding.{holds_term, holds_flags, holds_bound}
use Rattle.predicates.specs.Registers.{known_among}
use Rattle.predicates.specs.Predicate.{Predicate}
use Rattle.predicates.specs.Weaken.{weaker_registers, weaken}
use Rattle.predicates.specs.Weight.{weight_of}
use Rattle.entailment_laws.proofs.LawLemmas.{same}

-- a part is as it was, or weighs less
abbrev pub FallsBy : {A : Type 0} → (A → ℕ) → A → A → Type 0
FallsBy weight new old = (new ≡ old) ⊎ (weight new < weight old)

-- either way it doesn't weigh more
pub no_more : {A : Type 0} (weight : A → ℕ) (new old : A) → FallsBy weight new old → weight new ≤ weight old
no_more weight new old h = elim h as (λ _. weight new ≤ weight old) [ inl e ↦ (let w = ap weight e in omega (arith, w)) | inr l ↦ omega (arith, l) ]

known : Option PlainSum → ℕ
known t = from_bool (is_some t)

-- one register
term_falls : (b : Bool) (t : Option PlainSum) → FallsBy (λ t. from_bool (is_some t)) (if b then t else None) t
term_falls true t = inl refl
term_falls false None = inl refl
term_falls false (Some t) = inr (omega arith)

-- a register before others
register_falls : (s t : Option PlainSum) (ss ts : List (Option PlainSum)) → FallsBy (λ t. from_bool (is_some t)) s t → FallsBy known_among ss ts → FallsBy known_among (s ∷ ss) (t ∷ ts)
register_falls s t ss ts h k = elim h as (λ _. FallsBy known_among (s ∷ ss) (t ∷ ts)) [
  | inl e ↦ elim k as (λ _. FallsBy known_among (s ∷ ss) (t ∷ ts)) [
    | inl f ↦ inl (ap (λ x. x ∷ ss) e ∙ ap (λ xs. t ∷ xs) f)
    | inr l ↦ inr (let w = ap (λ x. from_bool (is_some x)) e in omega (arith, w, l))
  ]
  | inr l ↦ inr (let w = no_more known_among ss ts k in omega (arith, l, w))
]

pub registers_fall : (hs ts : List (Option PlainSum)) → FallsBy known_among (weaker_registers hs ts) ts
registers_fall hs [] = inl refl
registers_fall [] (t ∷ ts) = register_falls None t (weaker_registers [] ts) ts (term_falls false t) (registers_fall [] ts)
registers_fall (h ∷ hs) (t ∷ ts) = register_falls (if holds_term h t then t else None) t (weaker_registers hs ts) ts (term_falls (holds_term h t) t) (registers_fall hs ts)

flag_falls : (b : Bool) (f : Option FlagFact) → FallsBy (λ f. from_bool (is_some f)) (if b then f else None) f
flag_falls true f = inl refl
flag_falls false None = inl refl
flag_falls false (Some f) = inr (omega arith)

pub bounds_fall : (p : Bound → Bool) (bs : List Bound) → FallsBy length (filter p bs) bs
bounds_fall p [] = inl refl
bounds_fall p (b ∷ bs) = elim (p b) as (λ t. FallsBy length (cond t (b ∷ filter p bs) (filter p bs)) (b ∷ bs)) [
  | true ↦ elim (bounds_fall p bs) as (λ _. FallsBy length (b ∷ filter p bs) (b ∷ bs)) [
    | inl e ↦ inl (ap (λ xs. b ∷ xs) e)
    | inr l ↦ inr (omega (arith, l))
  ]
  | false ↦ inr (let w = no_more length (filter p bs) bs (bounds_fall p bs) in omega (arith, w))
]

pub forest_falls : (held f : PlainForest) → FallsBy count (weakened held f) f
forest_falls held none = inl refl
forest_falls held (cell ns b v under rest) =
    elim (holder held ns b v) as (λ o. FallsBy count (elim o as (λ o. PlainForest) [ Some c ↦ cell ns b v (weakened c.under under) (weakened held rest) | None ↦ weakened held rest ]) (cell ns b v under rest)) [
      | Some c ↦ elim (forest_falls c.under under) as (λ _. FallsBy count (cell ns b v (weakened c.under under) (weakened held rest)) (cell ns b v under rest)) [
        | inl e ↦ elim (forest_falls held rest) as (λ _. FallsBy count (cell ns b v (weakened c.under under) (weakened held rest)) (cell ns b v under rest)) [
          | inl f ↦ inl (ap (λ x. cell ns b v x (weakened held rest)) e ∙ ap (λ x. cell ns b v under x) f)
          | inr l ↦ inr (let w = ap count e in omega (arith, w, l))
        ]
        | inr l ↦ inr (let w = no_more count (weakened held rest) rest (forest_falls held rest) in omega (arith, l, w))
      ]
      | None ↦ inr (let w = no_more count (weakened held rest) rest (forest_falls held rest) in omega (arith, w))
    ]

-- a predicate that is weakened
pub weaken_falls : (p r : Predicate) → FallsBy weight_of (weaken p r) p
weaken_falls p r =
    let q = weaken p r in
    let a = registers_fall r.regs p.regs in
    let b = flag_falls (holds_flags r.flags p.flags) p.flags in
    let c = bounds_fall (holds_bound r.bounds) p.bounds in
    let d = forest_falls r.forest p.forest in
    let al = no_more known_among q.regs p.regs a in
    let bl = no_more (λ f. from_bool (is_some f)) q.flags p.flags b in
    let cl = no_more length q.bounds p.bounds c in
    let dl = no_more count q.forest p.forest d in
    let Goal : Type 0 = FallsBy weight_of q p in
    elim a as (λ _. Goal) [
      | inr l ↦ inr (omega (arith, l, bl, cl, dl))
      | inl ea ↦ elim b as (λ _. Goal) [
        | inr l ↦ inr (omega (arith, al, l, cl, dl))
        | inl eb ↦ elim c as (λ _. Goal) [
          | inr l ↦ inr (omega (arith, al, bl, l, dl))
          | inl ec ↦ elim d as (λ _. Goal) [
            | inr l ↦ inr (omega (arith, al, bl, cl, l))
            | inl ed ↦ inl (same q p ea eb ec ed)
          ]
        ]
      ]
    ]
