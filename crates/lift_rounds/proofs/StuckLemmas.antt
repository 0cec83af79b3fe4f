-- A round is never stuck: among vertices of which none can be taken there would be a loop head
use Rattle.std.proofs.Common.{◌≡◌, ◌≢◌, ◌<◌, ◌≤◌, ◌+◌, ◌⊎◌, ℕ, zero, suc, Bool, true, false, List, [], ◌∷◌, length, get_or, refl, sym, ap, ◌∙◌, subst, inl, inr, arith}
use Rattle.std.specs.List.{All}
use Rattle.std.specs.declared.vec.Vec.{Vec}
use Rattle.std.specs.declared.alloc.Global.{Global}
use Rattle.std.proofs.lemmas.Bool.{cases_eq, false≢true}
use Rattle.std.proofs.lemmas.List.{get_or_default}
use Rattle.std.proofs.lemmas.List.Elements.{All-nil, All-cons}
use Rattle.lift_graph.specs.Rows.{is_set, items_at}
use Rattle.lift_graph.specs.Heads.{Leads, Way, IsRooted}
use Rattle.lift_rounds.specs.Round.{Frame, NeverStuck}
use Rattle.lift_graph.specs.declared.graph.Place.{Place}

-- either all come from taken vertices, or one doesn't
all_or_one : (taken : List Bool) (places : List Place) → All (λ p. is_set taken p.vertex ≡ true) places ⊎ ((k : ℕ) × (k < length places) × ((d : Place) → is_set taken (get_or places k d).vertex ≡ false))
all_or_one taken [] = inl (All-nil (λ p. is_set taken p.vertex ≡ true))
all_or_one taken (p ∷ ps) = elim (is_set taken p.vertex) as (λ b. is_set taken p.vertex ≡ b → All (λ q. is_set taken q.vertex ≡ true) (p ∷ ps) ⊎ ((k : ℕ) × (k < length (p ∷ ps)) × ((d : Place) → is_set taken (get_or (p ∷ ps) k d).vertex ≡ false))) [
  | false ↦ (λ e. inr (0, omega arith, λ d. e))
  | true ↦ (λ e. elim (all_or_one taken ps) as (λ _. All (λ q. is_set taken q.vertex ≡ true) (p ∷ ps) ⊎ ((k : ℕ) × (k < length (p ∷ ps)) × ((d : Place) → is_set taken (get_or (p ∷ ps) k d).vertex ≡ false))) [
    | inl a ↦ inl (All-cons (λ q. is_set taken q.vertex ≡ true) p ps e a)
    | inr w ↦ inr (suc w.0, omega (arith, w.1), w.2)
  ])
] refl

-- edges from two vertices are several
several : (inward : List (Vec Place Global)) (a b v : ℕ) → a ≢ b → Leads inward a v → Leads inward b v → 2 ≤ length (items_at inward v)
several inward a b v n x y =
    let d : Place = record { vertex = 0; case = 0 } in
    let k : x.0 ≢ y.0 = λ e. n (sym (x.2 d) ∙ ap (λ i. (get_or (items_at inward v) i d).vertex) e ∙ y.2 d) in
    let i = x.1 in let j = y.1 in
    elim (cases_eq x.0 y.0) as (λ _. 2 ≤ length (items_at inward v)) [ inl e ↦ absurd (k e) | inr ne ↦ omega arith ]

-- no set of vertices from m on in which each has an edge from one of the set and none is kept
pub descend : (inward : List (Vec Place Global)) (keeps : List Bool) (n : ℕ) → IsRooted inward keeps n → (gap m : ℕ) → m + gap ≡ n → (U : ℕ → Type 0) → ((v : ℕ) → U v → (m ≤ v) × (v < n) × (is_set keeps v ≡ false) × ((u : ℕ) × U u × Leads inward u v)) → (x : ℕ) → U x → ⊥
descend inward keeps n r zero m e U h x ux = let w = h x ux in let a = w.0 in let b = w.1 in omega arith
descend inward keeps n r (suc gap) m e U h x ux =
    let none : U m → ⊥ = λ um.
    (let w = h m um in
    let from = w.3 in
    let positive : 0 < m = (elim (cases_eq m 0) as (λ _. 0 < m) [ inl z ↦ absurd (false≢true (sym w.2 ∙ subst (λ i. is_set keeps i ≡ true) (sym z) r.entry)) | inr nz ↦ omega arith ]) in
    let birth = r.born m positive w.1 in
    let above = (h from.0 from.1).0 in
    let below = birth.1 in
    let more = several inward birth.0 from.0 m (λ s. let t = s in omega arith) birth.2 from.2 in
    let Before : ℕ → Type 0 = λ v. U v × ((k : ℕ) × Way inward v m (suc k)) in
    descend inward keeps n r gap (m + 1) (omega arith) Before
    (λ v b.
    (let wv = h v b.0 in
    let low = wv.0 in
    let apart : v ≢ m = λ s. false≢true (sym w.2 ∙ r.heads m w.1 (more, (b.1.0, subst (λ i. Way inward i m (suc b.1.0)) s b.1.1))) in
    let up = wv.3 in
    (omega arith, wv.1, wv.2, (up.0, (up.1, (suc b.1.0, (v, up.2, b.1.1))), up.2))))
    from.0 (from.1, (0, (m, from.2, refl)))) in
    descend inward keeps n r gap (m + 1) (omega arith) U
    (λ v uv. (let wv = h v uv in let low = wv.0 in let apart : v ≢ m = λ s. none (subst U s uv) in (omega arith, wv.1, wv.2, wv.3)))
    x ux

pub never_stuck : {R : Type 0} (f : Frame R) (n : ℕ) → IsRooted f.inward f.keeps n → NeverStuck f n
never_stuck f n r taken long ready v l =
    elim (is_set taken v) as (λ b. is_set taken v ≡ b → is_set taken v ≡ true) [
      | true ↦ (λ e. e)
      | false ↦ (λ e. absurd (descend f.inward f.keeps n r n 0 (omega arith) (λ u. (u < n) × (is_set taken u ≡ false))
          (λ u h.
          (let kept : is_set f.keeps u ≡ false = elim (is_set f.keeps u) as (λ b. is_set f.keeps u ≡ b → is_set f.keeps u ≡ false) [ false ↦ (λ k. k) | true ↦ (λ k. absurd (false≢true (sym h.1 ∙ ready u h.0 (inl k)))) ] refl in
          elim (all_or_one taken (items_at f.inward u)) as (λ _. (0 ≤ u) × (u < n) × (is_set f.keeps u ≡ false) × ((w : ℕ) × ((w < n) × (is_set taken w ≡ false)) × Leads f.inward w u)) [
            | inl a ↦ absurd (false≢true (sym h.1 ∙ ready u h.0 (inr a)))
            | inr k ↦
                (let d : Place = record { vertex = 0; case = 0 } in
                let w = (get_or (items_at f.inward u) k.0 d).vertex in
                (omega arith, h.0, kept, (w, (r.within u h.0 k.0 d k.1, k.2 d), (k.0, k.1, λ c. ap (λ (p : Place). p.vertex) (get_or_default (items_at f.inward u) k.0 c d k.1)))))
          ]))
          v (l, e)))
    ] refl
