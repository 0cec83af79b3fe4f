-- The last of a list, and a level of many.
use Rattle.std.proofs.Common.{◌≡◌, ℕ, zero, suc, ◌-◌, ◌<◌, Bool, Some, None, List, [], ◌∷◌, length, refl, ap, arith}
use Rattle.std.specs.Prelude.{slice_get}
use Rattle.std.proofs.lemmas.Option.{slice_get_within}
use Rattle.mem_forest.specs.Plain.{PlainNode}
use Rattle.graph_builder.specs.Order.{extends_order, level_at}

extends_at : {A B : Type 0} (before : A → B → Bool) (xs : List A) (y : B) (x : A) (n : ℕ) → length xs ≡ suc n → slice_get xs n ≡ Some x
    → extends_order before xs y ≡ before x y
extends_at before [] y x n h e = absurd (omega arith)
extends_at before (z ∷ []) y x zero h e = let q : z ≡ x = cc in ap (λ w. before w y) q
extends_at before (z ∷ []) y x (suc n) h e = absurd (omega arith)
extends_at before (z ∷ w ∷ xs) y x zero h e = absurd (omega arith)
extends_at before (z ∷ w ∷ xs) y x (suc n) h e = extends_at before (w ∷ xs) y x n (omega arith) e

-- what follows a list is what comes after its last item
pub extends_last : {A B : Type 0} (before : A → B → Bool) (xs : List A) (y : B) (x : A) → slice_get xs (length xs - 1) ≡ Some x
    → extends_order before xs y ≡ before x y
extends_last before xs y x e =
    let h : length xs - 1 < length xs = slice_get_within xs (length xs - 1) x e in
    extends_at before xs y x (length xs - 1) (omega arith) e

-- the level of that number
pub level_there : (level : ℕ) (levels : List (List PlainNode)) (nodes : List PlainNode) → slice_get levels level ≡ Some nodes → level_at level levels ≡ nodes
level_there level [] nodes e = absurd (cc)
level_there zero (n ∷ ns) nodes e = cc
level_there (suc level) (n ∷ ns) nodes e = level_there level ns nodes e

-- no level of that number
pub level_past : (level : ℕ) (levels : List (List PlainNode)) → slice_get levels level ≡ None → level_at level levels ≡ []
level_past level [] e = refl
level_past zero (n ∷ ns) e = absurd (cc)
level_past (suc level) (n ∷ ns) e = level_past level ns e
