-- What is read of lists of lists and of lists of marks.
use Rattle.std.specs.Prelude.{ℕ, zero, suc, Bool, false, List, [], ◌∷◌, slice_index_or}
use Rattle.std.specs.declared.vec.Vec.{Vec}
use Rattle.std.specs.declared.alloc.Global.{Global}

-- the row at a place, empty past the end
abbrev pub items_at : {A : Type 0} → List (Vec A Global) → ℕ → List A
items_at [] n = []
items_at (x ∷ xs) zero = x.items
items_at (x ∷ xs) (suc n) = items_at xs n

-- the mark at a place, no past the end
abbrev pub is_set : List Bool → ℕ → Bool
is_set marks v = slice_index_or marks v false
