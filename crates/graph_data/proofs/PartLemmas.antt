-- A fact of each element of a list, at one place.
use Rattle.std.proofs.Common.{◌≡◌, ℕ, zero, suc, ◌<◌, List, [], ◌∷◌, ◌++◌, length, get_or, sym, subst, arith}
use Rattle.graph_data.specs.Parts.{Each}

-- what holds of each element holds of the one at a place
pub each_at : {X : Type 0} (P : X → Type 0) (xs : List X) (i : ℕ) (x : X) → Each P xs → i < length xs → x ≡ get_or xs i x → P x
each_at P [] i x all lt is = absurd (omega arith)
each_at P (y ∷ ys) zero x all lt is = subst P (sym is) all.0
each_at P (y ∷ ys) (suc i) x all lt is = each_at P ys i x all.1 (omega arith) is

-- what holds of each element and of one more holds of each of them all
pub each_push : {X : Type 0} (P : X → Type 0) (xs : List X) (x : X) → Each P xs → P x → Each P (xs ++ x ∷ [])
each_push P [] x all h = (h, tt)
each_push P (y ∷ ys) x all h = (all.0, each_push P ys x all.1 h)
