-- How many vertices stand at an address with a lower tag, and that this tells the vertices of an address apart.
use Rattle.std.proofs.Common.{◌≡◌, ◌<◌, ◌+◌, ◌⊎◌, ℕ, zero, suc, List, [], ◌∷◌, ◌++◌, length, Some, None, Option, slice_get, refl, sym, subst, inl, inr, arith}
use Rattle.std.specs.Option.{option_to_list}
use Rattle.std.specs.Prelude.{is_some}
use Rattle.std.specs.Int.{from_bool}
use Rattle.std.specs.BTreeMap.{BTreeMap, get}
use Rattle.std.proofs.lemmas.Bool.{cases_lt}
use Rattle.lift_graph.specs.Graph.{key_cmp}
use Rattle.lift_graph.specs.Sites.{vertices_at}
use Rattle.lift_graph.specs.declared.graph.Key.{Key}

length_one_more : {A : Type 0} (xs : List A) (o : Option A) → length (xs ++ option_to_list o) ≡ length xs + from_bool (is_some o)
length_one_more [] None = refl
length_one_more [] (Some x) = refl
length_one_more (y ∷ ys) o = let h = length_one_more ys o in omega (arith, h)

-- one tag more adds the vertex of that tag, where there is one
pub number_more : (index : BTreeMap Key ℕ) (address tag : ℕ) → length (vertices_at index address (suc tag)) ≡ length (vertices_at index address tag) + from_bool (is_some (get key_cmp index (record { address = address; tag = tag })))
number_more index address tag = length_one_more (vertices_at index address tag) (get key_cmp index (record { address = address; tag = tag }))

get_front : {A : Type 0} (xs ys : List A) (n : ℕ) (x : A) → slice_get xs n ≡ Some x → slice_get (xs ++ ys) n ≡ Some x
get_front [] ys n x h = absurd (let f : ⊥ = cc in f)
get_front (y ∷ xs) ys zero x h = h
get_front (y ∷ xs) ys (suc n) x h = get_front xs ys n x h

get_last : {A : Type 0} (xs : List A) (x : A) → slice_get (xs ++ x ∷ []) (length xs) ≡ Some x
get_last [] x = refl
get_last (y ∷ xs) x = get_last xs x

-- the vertex of a key stands at its number among those of the address
pub number_tells : (index : BTreeMap Key ℕ) (address tag v tags : ℕ) → get key_cmp index (record { address = address; tag = tag }) ≡ Some v → tag < tags
    → slice_get (vertices_at index address tags) (length (vertices_at index address tag)) ≡ Some v
number_tells index address tag v zero e l = absurd (omega (arith, l))
number_tells index address tag v (suc tags) e l =
    let n = length (vertices_at index address tag) in
    let P : ℕ → Type 0 = λ t. slice_get (vertices_at index address (suc t)) n ≡ Some v in
    elim (cases_lt tag tags) as (λ _. P tags) [
      | inl below ↦ get_front (vertices_at index address tags) (option_to_list (get key_cmp index (record { address = address; tag = tags }))) n v (number_tells index address tag v tags e below)
      | inr above ↦ (let same : tag ≡ tags = omega (arith, l, above) in
          subst P same (subst (λ o. slice_get (vertices_at index address tag ++ option_to_list o) n ≡ Some v) (sym e) (get_last (vertices_at index address tag) v)))
    ]

got_last : {A : Type 0} (xs : List A) (o : Option A) (k : ℕ) (x : A) → slice_get (xs ++ option_to_list o) k ≡ Some x → (slice_get xs k ≡ Some x) ⊎ ((k ≡ length xs) × (o ≡ Some x))
got_last [] None k x h = absurd (let f : ⊥ = cc in f)
got_last [] (Some y) zero x h = inr (refl, h)
got_last [] (Some y) (suc k) x h = absurd (let f : ⊥ = cc in f)
got_last (y ∷ xs) o zero x h = inl h
got_last (y ∷ xs) o (suc k) x h = elim (got_last xs o k x h) as (λ _. (slice_get (y ∷ xs) (suc k) ≡ Some x) ⊎ ((suc k ≡ length (y ∷ xs)) × (o ≡ Some x))) [
  | inl e ↦ inl e
  | inr w ↦ inr (let e = w.0 in omega (arith, e), w.1)
]

-- a vertex at an address with its tag, and the place that the tag gives it
pub record StandsAt (index : BTreeMap Key ℕ) (address tags k v : ℕ) : Type 0 where
  pub tag : ℕ
  pub below : tag < tags
  pub found : get key_cmp index (record { address = address; tag = tag }) ≡ Some v
  pub place : k ≡ length (vertices_at index address tag)

-- what stands at a place among the vertices of an address has a tag that gives it the place
pub told_number : (index : BTreeMap Key ℕ) (address tags k v : ℕ) → slice_get (vertices_at index address tags) k ≡ Some v → StandsAt index address tags k v
told_number index address zero k v h = absurd (let f : ⊥ = cc in f)
told_number index address (suc tags) k v h =
    let o = get key_cmp index (record { address = address; tag = tags }) in
    elim (got_last (vertices_at index address tags) o k v h) as (λ _. StandsAt index address (suc tags) k v) [
      | inl e ↦ (let t = told_number index address tags k v e in
          record { tag = t.tag; below = (let l = t.below in omega (arith, l)); found = t.found; place = t.place })
      | inr w ↦ record { tag = tags; below = omega arith; found = w.1; place = w.0 }
    ]
