-- Lemmas on two short lists that stand beside each other.
use Rattle.std.proofs.Common.{◌<◌, ◌≤◌, ◌↔◌, List, [], ◌∷◌, length, slice_index_or, refl, arith}
use Rattle.std.specs.Prelude.{Any}
use Rattle.std.specs.List.{AllZip}

-- a list of one element beside one of the same length
pub one_beside :
    {A B : Type 0} (R : A → B → Type 0) (x : A) (ys : List B) (d : B) → 1 ≤ length ys → length ys < 2 →
    R x (slice_index_or ys 0 d) ↔ AllZip R (x ∷ []) ys
one_beside R x [] d more less = absurd (omega arith)
one_beside R x (y ∷ []) d more less = (λ r. (r, tt), λ z. z.0)
one_beside R x (y ∷ z ∷ zs) d more less = absurd (omega arith)

-- a list of two elements beside one of the same length
pub two_beside :
    {A B : Type 0} (R : A → B → Type 0) (w x : A) (ys : List B) (d e : B) → 2 ≤ length ys → length ys < 3 →
    (R w (slice_index_or ys 0 d) × R x (slice_index_or ys 1 e)) ↔ AllZip R (w ∷ x ∷ []) ys
two_beside R w x [] d e more less = absurd (omega arith)
two_beside R w x (y ∷ []) d e more less = absurd (omega arith)
two_beside R w x (y ∷ z ∷ []) d e more less = (λ r. (r.0, (r.1, tt)), λ p. (p.0, p.1.0))
two_beside R w x (y ∷ z ∷ v ∷ vs) d e more less = absurd (omega arith)

-- the first element has the fact
pub any_first : {A : Type 0} (P : A → Type 0) (x : A) (xs : List A) → P x → Any P (x ∷ xs)
any_first P x xs p = (0, x, omega arith, refl, p)

-- the second element has the fact
pub any_second : {A : Type 0} (P : A → Type 0) (w x : A) (xs : List A) → P x → Any P (w ∷ x ∷ xs)
any_second P w x xs p = (1, x, omega arith, refl, p)
