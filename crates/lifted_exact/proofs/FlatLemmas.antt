-- Lists of lists, one after another.
use Rattle.std.proofs.Common.{◌≡◌, Bool, true, false, cond, List, [], ◌∷◌, ◌++◌, map, refl, sym, ap, ap₂, ◌∙◌, inl, inr, append_assoc}
use Rattle.std.specs.Prelude.{filter}
use Rattle.std.specs.List.{flat_map}
use Rattle.lift_graph.specs.Search.{IsMember}

by_test : {X : Type 0} (b : Bool) (x : X) (xs ys : List X) → cond b (x ∷ (xs ++ ys)) (xs ++ ys) ≡ cond b (x ∷ xs) xs ++ ys
by_test true x xs ys = refl
by_test false x xs ys = refl

pub filter_both : {X : Type 0} (p : X → Bool) (xs ys : List X) → filter p (xs ++ ys) ≡ filter p xs ++ filter p ys
filter_both p [] ys = refl
filter_both p (x ∷ xs) ys = ap (λ zs. cond (p x) (x ∷ zs) zs) (filter_both p xs ys) ∙ by_test (p x) x (filter p xs) (filter p ys)

map_both : {X Y : Type 0} (h : X → Y) (xs ys : List X) → map h (xs ++ ys) ≡ map h xs ++ map h ys
map_both h [] ys = refl
map_both h (x ∷ xs) ys = ap (λ zs. h x ∷ zs) (map_both h xs ys)

flat_both : {X Y : Type 0} (f : X → List Y) (xs ys : List X) → flat_map f (xs ++ ys) ≡ flat_map f xs ++ flat_map f ys
flat_both f [] ys = refl
flat_both f (x ∷ xs) ys = ap (λ zs. f x ++ zs) (flat_both f xs ys) ∙ sym (append_assoc (f x) (flat_map f xs) (flat_map f ys))

pub filter_flat : {X Y : Type 0} (p : Y → Bool) (f : X → List Y) (xs : List X) → filter p (flat_map f xs) ≡ flat_map (λ x. filter p (f x)) xs
filter_flat p f [] = refl
filter_flat p f (x ∷ xs) = filter_both p (f x) (flat_map f xs) ∙ ap (λ zs. filter p (f x) ++ zs) (filter_flat p f xs)

pub map_flat : {X Y Z : Type 0} (h : Y → Z) (f : X → List Y) (xs : List X) → map h (flat_map f xs) ≡ flat_map (λ x. map h (f x)) xs
map_flat h f [] = refl
map_flat h f (x ∷ xs) = map_both h (f x) (flat_map f xs) ∙ ap (λ zs. map h (f x) ++ zs) (map_flat h f xs)

pub flat_flat : {X Y Z : Type 0} (f : Y → List Z) (k : X → List Y) (xs : List X) → flat_map f (flat_map k xs) ≡ flat_map (λ x. flat_map f (k x)) xs
flat_flat f k [] = refl
flat_flat f k (x ∷ xs) = flat_both f (k x) (flat_map k xs) ∙ ap (λ zs. flat_map f (k x) ++ zs) (flat_flat f k xs)

pub flat_of_map : {X Y Z : Type 0} (f : Y → List Z) (h : X → Y) (xs : List X) → flat_map f (map h xs) ≡ flat_map (λ x. f (h x)) xs
flat_of_map f h [] = refl
flat_of_map f h (x ∷ xs) = ap (λ zs. f (h x) ++ zs) (flat_of_map f h xs)

-- the same lists of each item
pub flat_same : {X Y : Type 0} (f k : X → List Y) (xs : List X) → ((x : X) → IsMember x xs → f x ≡ k x) → flat_map f xs ≡ flat_map k xs
flat_same f k [] h = refl
flat_same f k (x ∷ xs) h = ap₂ (λ ys zs. ys ++ zs) (h x (inl refl)) (flat_same f k xs (λ y m. h y (inr m)))
