-- A fact of each element of lists.
use Rattle.std.proofs.Common.{◌≡◌, ℕ, Bool, true, List, [], ◌∷◌, map, Some, slice_get, get_or, ap, subst, inl, inr}
use Rattle.std.specs.List.{All, flat_map, list_all}
use Rattle.std.proofs.lemmas.Bool.{and_parts}
use Rattle.std.proofs.lemmas.Option.{slice_get-get_or}
use Rattle.std.proofs.lemmas.List.Elements.{All-append, All-cons, All-nil, All-head, All-tail}
use Rattle.std.specs.declared.cmp.Ordering.{Ordering}
use Rattle.std.specs.declared.cmp.Ordering.TheVariants.{Less, Equal, Greater}
use Rattle.lift_graph.specs.Search.{IsMember}
use Rattle.site_lines.specs.Ordered.{with_item, with_items, ordered}

pub all_by : {A : Type 0} (P : A → Type 0) (xs : List A) → ((k : ℕ) (x : A) → slice_get xs k ≡ Some x → P x) → All P xs
all_by P xs h = λ k d l. h k (get_or xs k d) (slice_get-get_or xs k d l)

pub all_flat : {A B : Type 0} (P : B → Type 0) (f : A → List B) (xs : List A) → ((x : A) → All P (f x)) → All P (flat_map f xs)
all_flat P f [] h = All-nil P
all_flat P f (x ∷ xs) h = All-append P (f x) (flat_map f xs) (h x) (all_flat P f xs h)

all_with_one : {A : Type 0} (P : A → Type 0) (cmp : A → A → Ordering) (x : A) (ys : List A) → P x → All P ys → All P (with_item cmp x ys)
all_with_one P cmp x [] p h = All-cons P x [] p (All-nil P)
all_with_one {A} P cmp x (y ∷ ys) p h =
    elim (cmp x y) as (λ o. All P (elim o as (λ o. List A) [ Less ↦ x ∷ y ∷ ys | Equal ↦ y ∷ ys | Greater ↦ y ∷ with_item cmp x ys ])) [
      | Less ↦ All-cons P x (y ∷ ys) p h
      | Equal ↦ h
      | Greater ↦ All-cons P y (with_item cmp x ys) (All-head P y ys h) (all_with_one P cmp x ys p (All-tail P y ys h))
    ]

all_with : {A : Type 0} (P : A → Type 0) (cmp : A → A → Ordering) (xs ys : List A) → All P xs → All P ys → All P (with_items cmp xs ys)
all_with P cmp xs [] h k = h
all_with P cmp xs (y ∷ ys) h k = all_with P cmp (with_item cmp y xs) ys (all_with_one P cmp y xs (All-head P y ys k) h) (All-tail P y ys k)

-- what is put in order has what each has
pub all_ordered : {A : Type 0} (P : A → Type 0) (cmp : A → A → Ordering) (ys : List A) → All P ys → All P (ordered cmp ys)
all_ordered P cmp ys h = all_with P cmp [] ys (All-nil P) h

-- a member passes a test that each passes
pub passes : {A : Type 0} (p : A → Bool) (xs : List A) (x : A) → list_all p xs ≡ true → IsMember x xs → p x ≡ true
passes p [] x h m = absurd m
passes p (y ∷ xs) x h m =
    let both = and_parts (p y) (list_all p xs) h in
    elim m as (λ _. p x ≡ true) [
      | inl e ↦ subst (λ z. p z ≡ true) e both.0
      | inr r ↦ passes p xs x both.1 r
    ]

pub member_map : {A B : Type 0} (f : A → B) (xs : List A) (x : A) → IsMember x xs → IsMember (f x) (map f xs)
member_map f [] x m = absurd m
member_map f (y ∷ xs) x m = elim m as (λ _. IsMember (f x) (map f (y ∷ xs))) [ inl e ↦ inl (ap f e) | inr r ↦ inr (member_map f xs x r) ]
