-- When lists that are joined are empty.
use Rattle.std.proofs.Common.{◌≡◌, ℕ, ◌+◌, true, false, Bool, List, [], ◌∷◌, ◌++◌, map, None, refl, ◌↔◌, All}
use Rattle.std.specs.Prelude.{if◌then◌else◌}
use Rattle.std.specs.List.{flat_map, enumerate_from}
use Rattle.std.proofs.lemmas.List.Elements.{All-nil, All-cons, All-head, All-tail}
use Rattle.graph_data.specs.Parts.{Each}
use Rattle.graph_verdict.specs.declared.verdict.Rule.{Rule}
use Rattle.graph_verdict.specs.declared.verdict.Broken.{Broken}
use Rattle.edge_checker.specs.Breaks.{first, unless}

-- two lists joined
pub append-empty : {A : Type 0} (xs ys : List A) → (xs ++ ys ≡ []) ↔ ((xs ≡ []) × (ys ≡ []))
append-empty [] ys = (λ e. (refl, e), λ both. both.1)
append-empty (x ∷ xs) ys = (λ e. cc, λ both. absurd (cc both.0))

-- the images of a list
pub map-empty : {A B : Type 0} (g : A → B) (xs : List A) → (map g xs ≡ []) ↔ (xs ≡ [])
map-empty g [] = (λ e. refl, λ e. refl)
map-empty g (x ∷ xs) = (λ e. cc, λ e. cc)

-- a rule's break
pub unless-empty : (b : Bool) (rule : Rule) → (unless b rule ≡ []) ↔ (b ≡ true)
unless-empty true rule = (λ e. refl, λ e. refl)
unless-empty false rule = (λ e. cc, λ e. cc)

-- a rule's break, and others after it
pub rule_then : (place : Rule → Broken) (b : Bool) (rule : Rule) (rest : List Broken) → (map place (unless b rule) ++ rest ≡ []) ↔ ((b ≡ true) × (rest ≡ []))
rule_then place b rule rest =
    let parts = append-empty (map place (unless b rule)) rest in
    let here = map-empty place (unless b rule) in
    let test = unless-empty b rule in
    (λ e. (test.0 (here.0 (parts.0 e).0), (parts.0 e).1), λ both. parts.1 (here.1 (test.1 both.0), both.1))

-- a list, or one element where a test fails
pub else-empty : {A : Type 0} (b : Bool) (xs : List A) (x : A) → ((if b then xs else x ∷ []) ≡ []) ↔ ((b ≡ true) × (xs ≡ []))
else-empty true xs x = (λ e. (refl, e), λ both. both.1)
else-empty false xs x = (λ e. absurd (cc), λ both. absurd (cc both.0))

-- no first element
pub first-None : {A : Type 0} (xs : List A) → (first xs ≡ None) ↔ (xs ≡ [])
first-None [] = (λ e. refl, λ e. refl)
first-None (x ∷ xs) = (λ e. cc, λ e. cc)

-- the lists of all elements, where the list of each that is well formed is empty exactly at a fact
pub each-empty : {X A : Type 0} (W P : X → Type 0) (f : X → List A) → ((x : X) → W x → (f x ≡ []) ↔ P x) → (xs : List X) → Each W xs → (flat_map f xs ≡ []) ↔ All P xs
each-empty W P f each [] formed = (λ e. All-nil P, λ all. refl)
each-empty W P f each (x ∷ xs) formed =
    let parts = append-empty (f x) (flat_map f xs) in
    let rest = each-empty W P f each xs formed.1 in (
      λ e. All-cons P x xs ((each x formed.0).0 (parts.0 e).0) (rest.0 (parts.0 e).1),
      λ all. parts.1 ((each x formed.0).1 (All-head P x xs all), rest.1 (All-tail P x xs all)),
    )

-- the same, of all elements with their numbers
pub numbered-empty : {X A : Type 0} (W P : X → Type 0) (f : ℕ × X → List A) → ((n : ℕ) (x : X) → W x → (f (n, x) ≡ []) ↔ P x) → (n : ℕ) (xs : List X) → Each W xs → (flat_map f (enumerate_from n xs) ≡ []) ↔ All P xs
numbered-empty W P f each n [] formed = (λ e. All-nil P, λ all. refl)
numbered-empty W P f each n (x ∷ xs) formed =
    let parts = append-empty (f (n, x)) (flat_map f (enumerate_from (n + 1) xs)) in
    let rest = numbered-empty W P f each (n + 1) xs formed.1 in (
      λ e. All-cons P x xs ((each n x formed.0).0 (parts.0 e).0) (rest.0 (parts.0 e).1),
      λ all. parts.1 ((each n x formed.0).1 (All-head P x xs all), rest.1 (All-tail P x xs all)),
    )
