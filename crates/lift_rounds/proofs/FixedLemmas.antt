-- Where the addresses of cases don't depend on what is known no edge is lost.
use Rattle.std.proofs.Common.{◌≡◌, ◌≢◌, ◌≤◌, ◌⊎◌, ℕ, zero, suc, List, [], ◌∷◌, Some, None, map, length, slice_get, refl, sym, ap, ◌∙◌, subst, inl, inr, arith}
use Rattle.std.specs.Option.{option_map}
use Rattle.std.proofs.lemmas.Bool.{cases_eq, cases_lt}
use Rattle.lift_graph.specs.Graph.{address_at, tag_at}
use Rattle.lift_graph.specs.Links.{IsSublist, KeepsEdges, keys_after}
use Rattle.lift_graph.specs.declared.graph.Key.{Key}
use Rattle.lift_graph.specs.declared.graph.Graph.{Graph}
use Rattle.lift_rounds.specs.Meaning.{Meaning}
use Rattle.lift_rounds.specs.Known.{Known, cases_at, addresses}
use Rattle.lift_rounds.specs.Fixed.{IsFixedAt, IsUnresolvedAt, AreCases, IsFilled}
use Rattle.lift_rounds.specs.Settled.{IsLedAt}
use Rattle.lift_rounds.specs.declared.data.Case.{Case}
use Rattle.lift_rounds.proofs.FillLemmas.{same_address}

pub always_resolved : {R : Type 0} (m : Meaning R) (address : ℕ) → IsFixedAt m address → IsUnresolvedAt m address → ⊥
always_resolved m address f u = let e : None ≡ Some f.0 = sym (ap (option_map addresses) u.2) ∙ f.1 u.0 u.1 in let z : ⊥ = cc in z

same_addresses : {R : Type 0} (m : Meaning R) (address : ℕ) (xs ys : List (Case R)) → IsFixedAt m address → AreCases m address xs → AreCases m address ys → addresses xs ≡ addresses ys
same_addresses m address xs ys f x y =
    let a : Some (addresses xs) ≡ Some f.0 = sym (ap (option_map addresses) x.2) ∙ f.1 x.0 x.1 in
    let b : Some (addresses ys) ≡ Some f.0 = sym (ap (option_map addresses) y.2) ∙ f.1 y.0 y.1 in
    let e : Some (addresses xs) ≡ Some (addresses ys) = a ∙ sym b in
    cc

sublist_itself : {A : Type 0} (xs : List A) → IsSublist xs xs
sublist_itself [] = tt
sublist_itself (x ∷ xs) = inl (refl, sublist_itself xs)

-- a vertex that is taken keeps the edges that it had
pub edges_kept : {R : Type 0} (m : Meaning R) (g : Graph) (v : ℕ) (before after : List (Known R)) → IsFixedAt m (address_at g.keys.items v) → IsLedAt m g before v → ((cases_at before v ≡ []) ⊎ AreCases m (address_at g.keys.items v) (cases_at before v)) → ((cases_at after v ≡ cases_at before v) ⊎ AreCases m (address_at g.keys.items v) (cases_at after v)) → KeepsEdges g v (keys_after (m.forks (address_at g.keys.items v)) (tag_at g.keys.items v) 0 (addresses (cases_at after v)))
edges_kept m g v before after f led old new =
    let keys : List ℕ → List Key = λ as'. keys_after (m.forks (address_at g.keys.items v)) (tag_at g.keys.items v) 0 as' in
    let from : List ℕ → Type 0 = λ as'. IsSublist (map Some (keys as')) (map Some (keys (addresses (cases_at after v)))) in
    let alike : addresses (cases_at before v) ≡ addresses (cases_at after v) → from (addresses (cases_at before v)) = λ e. subst from (sym e) (sublist_itself (map Some (keys (addresses (cases_at after v))))) in
    let all : from (addresses (cases_at before v)) = elim old as (λ _. from (addresses (cases_at before v))) [
      | inl e ↦ subst (λ cs. from (addresses cs)) (sym e) tt
      | inr a ↦ elim new as (λ _. from (addresses (cases_at before v))) [
        | inl s ↦ alike (sym (ap addresses s))
        | inr b ↦ alike (same_addresses m (address_at g.keys.items v) (cases_at before v) (cases_at after v) f a b)
      ]
    ] in
    subst (λ xs. IsSublist xs (map Some (keys (addresses (cases_at after v))))) (sym led) all

-- one vertex more
pub filled_one : {R : Type 0} (m : Meaning R) (keys : List Key) (v : ℕ) (before after : List (Known R)) → ((u : ℕ) → u ≢ v → cases_at after u ≡ cases_at before u) → ((cases_at after v ≡ cases_at before v) ⊎ AreCases m (address_at keys v) (cases_at after v)) → IsFilled m keys before → IsFilled m keys after
filled_one m keys v before after others here filled u =
    let same : cases_at after u ≡ cases_at before u → (cases_at after u ≡ []) ⊎ AreCases m (address_at keys u) (cases_at after u) = λ e. subst (λ cs. (cs ≡ []) ⊎ AreCases m (address_at keys u) cs) (sym e) (filled u) in
    elim (cases_eq u v) as (λ _. (cases_at after u ≡ []) ⊎ AreCases m (address_at keys u) (cases_at after u)) [
      | inl e ↦ elim here as (λ _. (cases_at after u ≡ []) ⊎ AreCases m (address_at keys u) (cases_at after u)) [
        | inl s ↦ same (subst (λ x. cases_at after x ≡ cases_at before x) (sym e) s)
        | inr a ↦ inr (subst (λ x. AreCases m (address_at keys x) (cases_at after x)) (sym e) a)
      ]
      | inr n ↦ same (others u n)
    ]

cases_past : {R : Type 0} (made : List (Known R)) (v : ℕ) → length made ≤ v → cases_at made v ≡ []
cases_past [] v l = refl
cases_past (x ∷ xs) zero l = absurd (omega arith)
cases_past (x ∷ xs) (suc v) l = cases_past xs v (omega arith)

-- vertices without cases came at the end
pub filled_more : {R : Type 0} (m : Meaning R) (old new : List Key) (before after : List (Known R)) → length before ≡ length old → ((u : ℕ) (k : Key) → slice_get old u ≡ Some k → slice_get new u ≡ Some k) → ((u : ℕ) → cases_at after u ≡ cases_at before u) → IsFilled m old before → IsFilled m new after
filled_more m old new before after rows kept same filled u =
    elim (cases_lt u (length old)) as (λ _. (cases_at after u ≡ []) ⊎ AreCases m (address_at new u) (cases_at after u)) [
      | inl l ↦ subst (λ a. (cases_at after u ≡ []) ⊎ AreCases m a (cases_at after u)) (sym (same_address old new u l kept).0) (subst (λ cs. (cs ≡ []) ⊎ AreCases m (address_at old u) cs) (sym (same u)) (filled u))
      | inr p ↦ inl (same u ∙ cases_past before u (omega (arith, rows, p)))
    ]

-- a round over the same edges
pub round_filled : {T R : Type 0} {grows : T → T → Type 0} {meaning : T → Meaning R} → ((a b : T) → grows a b → meaning b ≡ meaning a) → (first now next : T) (start graph left : Graph) (old new : List (Known R)) → grows first now → graph ≡ start → left ≡ start → (IsFilled (meaning now) graph.keys.items old → IsFilled (meaning now) left.keys.items new) → IsFilled (meaning first) start.keys.items old → IsFilled (meaning first) start.keys.items new
round_filled {meaning = meaning} means first now next start graph left old new g e l step f =
    let m = means first now g in
    subst (λ (s : Graph). IsFilled (meaning first) s.keys.items new) l (subst (λ x. IsFilled x left.keys.items new) m (step (subst (λ (s : Graph). IsFilled (meaning now) s.keys.items old) (sym e) (subst (λ x. IsFilled x start.keys.items old) (sym m) f))))
