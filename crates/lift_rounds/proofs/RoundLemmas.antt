-- What a round leaves of one vertex, and how changes join.
use Rattle.std.proofs.Common.{◌≡◌, ◌≢◌, ◌<◌, ◌⊎◌, List, [], ◌∷◌, Option, Some, None, slice_get, IsSome, refl, sym, ap, subst, inl, inr, arith}
use Rattle.std.specs.List.{All}
use Rattle.std.proofs.lemmas.Bool.{false≢true}
use Rattle.std.proofs.lemmas.List.Elements.{All-head, All-tail}
use Rattle.lift_graph.specs.declared.graph.Place.{Place}
use Rattle.lift_rounds.specs.Meaning.{Meaning}
use Rattle.lift_rounds.specs.Known.{Known, cases_at, case_at, pred_of, incoming, gathered}
use Rattle.lift_rounds.specs.Visit.{worse}
use Rattle.lift_rounds.specs.Round.{weight_of, IsLighter}
use Rattle.lift_rounds.specs.declared.data.Change.{Change}
use Rattle.lift_rounds.specs.declared.data.Change.TheVariants.{Nothing, Made as MadeChange, Head, Found}

case_at_same : {R : Type 0} (after before : List (Known R)) (p : Place) → cases_at after p.vertex ≡ cases_at before p.vertex → case_at after p ≡ case_at before p
case_at_same after before p e = ap (λ cs. pred_of (slice_get cs p.case)) e

-- edges whose sources have the same cases bring the same
pub incoming_same : {R : Type 0} (after before : List (Known R)) (places : List Place) → All (λ p. cases_at after p.vertex ≡ cases_at before p.vertex) places → incoming after places ≡ incoming before places
incoming_same after before [] h = refl
incoming_same after before (p ∷ ps) h =
    let e = case_at_same after before p (All-head (λ p. cases_at after p.vertex ≡ cases_at before p.vertex) p ps h) in
    let es = incoming_same after before ps (All-tail (λ p. cases_at after p.vertex ≡ cases_at before p.vertex) p ps h) in
    cc

-- what is weakened loses conjuncts or stays
pub gathered_lighter : {R : Type 0} (m : Meaning R) → ((p q : R) → (m.weakened p q ≡ p) ⊎ (m.weight (m.weakened p q) < m.weight p)) → (p : R) (cs : List R) → IsLighter m (Some p) (gathered m (Some p) cs)
gathered_lighter m falls p [] = inl refl
gathered_lighter m falls p (c ∷ cs) =
    let next = gathered_lighter m falls (m.weakened p c) cs in
    elim (falls p c) as (λ _. IsLighter m (Some p) (gathered m (Some (m.weakened p c)) cs)) [
      | inl e ↦ subst (λ q. IsLighter m (Some q) (gathered m (Some (m.weakened p c)) cs)) e next
      | inr l ↦ elim next as (λ _. IsLighter m (Some p) (gathered m (Some (m.weakened p c)) cs)) [
        | inl e ↦ inr (subst (λ o. weight_of m o < m.weight p) (sym e) l)
        | inr k ↦ inr (omega arith)
      ]
    ]

pub lighter_of : {R : Type 0} (m : Meaning R) → ((p q : R) → (m.weakened p q ≡ p) ⊎ (m.weight (m.weakened p q) < m.weight p)) → (o : Option R) (cs : List R) → IsSome o → IsLighter m o (gathered m o cs)
lighter_of m falls None cs s = absurd (false≢true s)
lighter_of m falls (Some p) cs s = gathered_lighter m falls p cs

pub worse_head : (a b : Change) → worse a b ≡ Head → (b ≡ Head) ⊎ (a ≡ Head)
worse_head a Head e = inl refl
worse_head Head b e = inr refl
worse_head Nothing b e = inl e
worse_head MadeChange Nothing e = absurd (let f : ⊥ = cc in f)
worse_head MadeChange MadeChange e = absurd (let f : ⊥ = cc in f)
worse_head MadeChange Found e = absurd (let f : ⊥ = cc in f)
worse_head Found b e = absurd (let f : ⊥ = cc in f)

pub worse_nothing : (a b : Change) → worse a b ≡ Nothing → (a ≡ Nothing) × (b ≡ Nothing)
worse_nothing Nothing b e = (refl, e)
worse_nothing MadeChange Nothing e = absurd (let f : ⊥ = cc in f)
worse_nothing MadeChange MadeChange e = absurd (let f : ⊥ = cc in f)
worse_nothing MadeChange Head e = absurd (let f : ⊥ = cc in f)
worse_nothing MadeChange Found e = absurd (let f : ⊥ = cc in f)
worse_nothing Head Nothing e = absurd (let f : ⊥ = cc in f)
worse_nothing Head MadeChange e = absurd (let f : ⊥ = cc in f)
worse_nothing Head Head e = absurd (let f : ⊥ = cc in f)
worse_nothing Head Found e = absurd (let f : ⊥ = cc in f)
worse_nothing Found b e = absurd (let f : ⊥ = cc in f)

pub worse_made : (a b : Change) → worse a b ≡ MadeChange → ((a ≡ MadeChange) ⊎ ((a ≡ Nothing) × (b ≡ MadeChange))) × ((b ≡ MadeChange) ⊎ (b ≡ Nothing))
worse_made Nothing b e = (inr (refl, e), inl e)
worse_made MadeChange Nothing e = (inl refl, inr refl)
worse_made MadeChange MadeChange e = (inl refl, inl refl)
worse_made MadeChange Head e = absurd (let f : ⊥ = cc in f)
worse_made MadeChange Found e = absurd (let f : ⊥ = cc in f)
worse_made Head Nothing e = absurd (let f : ⊥ = cc in f)
worse_made Head MadeChange e = absurd (let f : ⊥ = cc in f)
worse_made Head Head e = absurd (let f : ⊥ = cc in f)
worse_made Head Found e = absurd (let f : ⊥ = cc in f)
worse_made Found b e = absurd (let f : ⊥ = cc in f)

pub worse_found : (a b : Change) → worse a b ≢ Found → (a ≢ Found) × (b ≢ Found)
worse_found Nothing b n = (λ e. let f : ⊥ = cc in f, n)
worse_found MadeChange b n = (λ e. let f : ⊥ = cc in f, λ e. n (subst (λ c. worse MadeChange c ≡ Found) (sym e) refl))
worse_found Head b n = (λ e. let f : ⊥ = cc in f, λ e. n (subst (λ c. worse Head c ≡ Found) (sym e) refl))
worse_found Found b n = absurd (n refl)

pub worse_not_head : (a b : Change) → worse a b ≢ Head → worse a b ≢ Found → (a ≢ Head) × (b ≢ Head)
worse_not_head Nothing b h f = (λ e. let z : ⊥ = cc in z, h)
worse_not_head MadeChange Nothing h f = (λ e. let z : ⊥ = cc in z, λ e. let z : ⊥ = cc in z)
worse_not_head MadeChange MadeChange h f = (λ e. let z : ⊥ = cc in z, λ e. let z : ⊥ = cc in z)
worse_not_head MadeChange Head h f = absurd (h refl)
worse_not_head MadeChange Found h f = absurd (f refl)
worse_not_head Head Nothing h f = absurd (h refl)
worse_not_head Head MadeChange h f = absurd (h refl)
worse_not_head Head Head h f = absurd (h refl)
worse_not_head Head Found h f = absurd (f refl)
worse_not_head Found b h f = absurd (f refl)

pub worse_found_left : (a b : Change) → worse a b ≡ Found → b ≢ Found → a ≡ Found
worse_found_left Nothing b e n = absurd (n e)
worse_found_left MadeChange Nothing e n = absurd (let f : ⊥ = cc in f)
worse_found_left MadeChange MadeChange e n = absurd (let f : ⊥ = cc in f)
worse_found_left MadeChange Head e n = absurd (let f : ⊥ = cc in f)
worse_found_left MadeChange Found e n = absurd (n refl)
worse_found_left Head Nothing e n = absurd (let f : ⊥ = cc in f)
worse_found_left Head MadeChange e n = absurd (let f : ⊥ = cc in f)
worse_found_left Head Head e n = absurd (let f : ⊥ = cc in f)
worse_found_left Head Found e n = absurd (n refl)
worse_found_left Found b e n = refl

pub worse_found_right : (a : Change) → worse a Found ≡ Found
worse_found_right Nothing = refl
worse_found_right MadeChange = refl
worse_found_right Head = refl
worse_found_right Found = refl
