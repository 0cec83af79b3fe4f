-- Lists in an order, each item once.
use Rattle.std.specs.Prelude.{List, [], ◌∷◌}
use Rattle.std.specs.declared.cmp.Ordering.{Ordering}
use Rattle.std.specs.declared.cmp.Ordering.TheVariants.{Less, Equal, Greater}

-- an ascending list with one more item, unless it stands there
abbrev pub with_item : {A : Type 0} → (A → A → Ordering) → A → List A → List A
with_item cmp x [] = x ∷ []
with_item {A} cmp x (y ∷ ys) = elim (cmp x y) as (λ o. List A) [
  | Less ↦ x ∷ y ∷ ys
  | Equal ↦ y ∷ ys
  | Greater ↦ y ∷ with_item cmp x ys
]

-- an ascending list with the items of another, each once
abbrev pub with_items : {A : Type 0} → (A → A → Ordering) → List A → List A → List A
with_items cmp xs [] = xs
with_items cmp xs (y ∷ ys) = with_items cmp (with_item cmp y xs) ys

-- the items of a list, ascending, each once
abbrev pub ordered : {A : Type 0} → (A → A → Ordering) → List A → List A
ordered cmp xs = with_items cmp [] xs
