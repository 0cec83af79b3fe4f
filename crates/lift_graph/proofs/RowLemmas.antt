-- What is read of rows, and what a write leaves.
use Rattle.std.proofs.Common.{◌≡◌, ◌≢◌, ◌<◌, ◌+◌, ℕ, zero, suc, List, [], ◌∷◌, ◌++◌, length, get_or, set, refl, sym, ap, arith}
use Rattle.std.specs.declared.vec.Vec.{Vec}
use Rattle.std.specs.declared.alloc.Global.{Global}
use Rattle.lift_graph.specs.Rows.{items_at}

pub items_at_read : {A : Type 0} (xs : List (Vec A Global)) (i : ℕ) (x : Vec A Global) → i < length xs → x ≡ get_or xs i x → items_at xs i ≡ x.items
items_at_read {A = A} [] i x h e = absurd (omega arith)
items_at_read {A = A} (y ∷ ys) zero x h e = ap (λ (v : Vec A Global). v.items) (sym e)
items_at_read {A = A} (y ∷ ys) (suc i) x h e = items_at_read ys i x (omega arith) e

pub items_at_push : {A : Type 0} (xs : List (Vec A Global)) (x : Vec A Global) (u : ℕ) → x.items ≡ [] → items_at (xs ++ x ∷ []) u ≡ items_at xs u
items_at_push [] x zero e = e
items_at_push [] x (suc u) e = refl
items_at_push (y ∷ ys) x zero e = refl
items_at_push (y ∷ ys) x (suc u) e = items_at_push ys x u e

pub items_at_past : {A : Type 0} (xs : List (Vec A Global)) (u : ℕ) → length xs < u + 1 → items_at xs u ≡ []
items_at_past [] u h = refl
items_at_past (y ∷ ys) zero h = absurd (omega arith)
items_at_past (y ∷ ys) (suc u) h = items_at_past ys u (omega arith)

pub items_at_set_same : {A : Type 0} (xs : List (Vec A Global)) (v : ℕ) (x : Vec A Global) → v < length xs → items_at (set xs v x) v ≡ x.items
items_at_set_same [] v x h = absurd (omega arith)
items_at_set_same (y ∷ ys) zero x h = refl
items_at_set_same (y ∷ ys) (suc v) x h = items_at_set_same ys v x (omega arith)

pub items_at_set_other : {A : Type 0} (xs : List (Vec A Global)) (v : ℕ) (x : Vec A Global) (u : ℕ) → u ≢ v → items_at (set xs v x) u ≡ items_at xs u
items_at_set_other [] v x u n = refl
items_at_set_other (y ∷ ys) zero x zero n = absurd (n refl)
items_at_set_other (y ∷ ys) zero x (suc u) n = refl
items_at_set_other (y ∷ ys) (suc v) x zero n = refl
items_at_set_other (y ∷ ys) (suc v) x (suc u) n = items_at_set_other ys v x u (λ e. n (ap suc e))
