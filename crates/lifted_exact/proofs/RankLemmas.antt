-- Lists in which each item stands before all that follow.
use Rattle.std.proofs.Common.{◌≡◌, ◌⊎◌, ◌<◌, ℕ, List, [], ◌∷◌, ◌++◌, refl, sym, ◌∙◌, ap₂, subst, inl, inr, arith}
use Rattle.std.specs.List.{flat_map}
use Rattle.graph_data.specs.Parts.{Ascends}
use Rattle.lift_graph.specs.Search.{IsMember}

abbrev pub Rises : {X : Type 0} → (X → X → Type 0) → List X → Type 0
Rises R [] = Unit {0}
Rises R (x ∷ xs) = ((y : _) → IsMember y xs → R x y) × Rises R xs

-- what stands in one of two lists
pub member_split : {X : Type 0} (v : X) (xs ys : List X) → IsMember v (xs ++ ys) → IsMember v xs ⊎ IsMember v ys
member_split v [] ys h = inr h
member_split v (x ∷ xs) ys h = elim h as (λ _. IsMember v (x ∷ xs) ⊎ IsMember v ys) [
  | inl e ↦ inl (inl e)
  | inr r ↦ elim (member_split v xs ys r) as (λ _. IsMember v (x ∷ xs) ⊎ IsMember v ys) [ inl i ↦ inl (inr i) | inr i ↦ inr i ]
]

-- what stands in the lists of a list's items
pub member_of_flat : {X Y : Type 0} (f : X → List Y) (y : Y) (xs : List X) → IsMember y (flat_map f xs) → (x : X) × IsMember x xs × IsMember y (f x)
member_of_flat f y [] h = absurd h
member_of_flat {X} f y (x ∷ xs) h = elim (member_split y (f x) (flat_map f xs) h) as (λ _. (z : X) × IsMember z (x ∷ xs) × IsMember y (f z)) [
  | inl i ↦ (x, inl refl, i)
  | inr i ↦ (let r = member_of_flat f y xs i in (r.0, inr r.1, r.2))
]

pub rises_append : {X : Type 0} (R : X → X → Type 0) (xs ys : List X) → Rises R xs → Rises R ys → ((x y : X) → IsMember x xs → IsMember y ys → R x y) → Rises R (xs ++ ys)
rises_append R [] ys h k over = k
rises_append {X} R (x ∷ xs) ys h k over = (
  λ y i. elim (member_split y xs ys i) as (λ _. R x y) [ inl j ↦ h.0 y j | inr j ↦ over x y (inl refl) j ],
  rises_append R xs ys h.1 k (λ z y i j. over z y (inr i) j),
)

-- the first of numbers that ascend is below the others
pub ascends_first : (n m : ℕ) (ns : List ℕ) → Ascends (n ∷ ns) → IsMember m ns → n < m
ascends_first n m [] h i = absurd i
ascends_first n m (k ∷ ks) h i = elim i as (λ _. n < m) [
  | inl e ↦ (let l = h.0 in omega (arith, l, e))
  | inr j ↦ (let l = h.0 in let r = ascends_first k m ks h.1 j in omega (arith, l, r))
]

pub ascends_rest : (n : ℕ) (ns : List ℕ) → Ascends (n ∷ ns) → Ascends ns
ascends_rest n [] h = tt
ascends_rest n (m ∷ ms) h = h.1

-- lists of numbers that ascend, one after another
pub rises_flat : {X : Type 0} (R : X → X → Type 0) (f : ℕ → List X) (ns : List ℕ) → Ascends ns → ((n : ℕ) → Rises R (f n)) → ((n m : ℕ) (x y : X) → n < m → IsMember x (f n) → IsMember y (f m) → R x y) → Rises R (flat_map f ns)
rises_flat R f [] up each over = tt
rises_flat R f (n ∷ ns) up each over =
    rises_append R (f n) (flat_map f ns) (each n) (rises_flat R f ns (ascends_rest n ns up) each over)
    (λ x y i j. let of = member_of_flat f y ns j in over n of.0 x y (ascends_first n of.0 ns up of.1) i of.2)

-- two lists that rise and have the same items are one
pub same_items : {X : Type 0} (R : X → X → Type 0) → ((x y : X) → R x y → R y x → ⊥) → (xs ys : List X) → Rises R xs → Rises R ys → ((x : X) → IsMember x xs → IsMember x ys) → ((x : X) → IsMember x ys → IsMember x xs) → xs ≡ ys
same_items R never [] [] h k f g = refl
same_items R never [] (y ∷ ys) h k f g = absurd (g y (inl refl))
same_items R never (x ∷ xs) [] h k f g = absurd (f x (inl refl))
same_items {X} R never (x ∷ xs) (y ∷ ys) h k f g =
    let first : x ≡ y = elim (f x (inl refl)) as (λ _. x ≡ y) [
      | inl e ↦ sym e
      | inr i ↦ elim (g y (inl refl)) as (λ _. x ≡ y) [
        | inl e ↦ e
        | inr j ↦ absurd (never x y (h.0 y j) (k.0 x i))
      ]
    ] in
    let onward : (z : X) → IsMember z xs → IsMember z ys = λ z i. elim (f z (inr i)) as (λ _. IsMember z ys) [
      | inl e ↦ (let r : R x x = subst (R x) (sym (first ∙ e)) (h.0 z i) in absurd (never x x r r))
      | inr j ↦ j
    ] in
    let backward : (z : X) → IsMember z ys → IsMember z xs = λ z i. elim (g z (inr i)) as (λ _. IsMember z xs) [
      | inl e ↦ (let r : R y y = subst (R y) (sym (sym first ∙ e)) (k.0 z i) in absurd (never y y r r))
      | inr j ↦ j
    ] in
    ap₂ (λ z zs. z ∷ zs) first (same_items R never xs ys h.1 k.1 onward backward)
