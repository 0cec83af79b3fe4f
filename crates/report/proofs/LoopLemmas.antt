-- One element more, as the loops take it.
use Rattle.std.proofs.Common.{◌≡◌, ◌<◌, ℕ, suc, ◌+◌, ◌++◌, ◌&&◌, ◌||◌, Bool, true, false, max, List, [], ◌∷◌, length, take, get_or, sum_by, sym, ap, ◌∙◌, arith}
use Rattle.std.specs.List.{flat_map, list_any}
use Rattle.std.proofs.lemmas.Grind.{common_steps}
use Rattle.std.proofs.lemmas.List.{append_assoc, append-nil}
use Rattle.std.proofs.lemmas.List.Concat.{flat_map-append}
use Rattle.std.proofs.lemmas.List.Sums.{sum_by-append, sum_by-cons}
use Rattle.std.proofs.Math.Seq.{take-suc}
use Rattle.report.specs.Counts.{capped}
use Rattle.report.specs.Marks.{flag}

take_more : {X : Type 0} (xs : List X) (i : ℕ) (d : X) → i < length xs → take (i + 1) xs ≡ take i xs ++ (get_or xs i d ∷ [])
take_more xs i d inside = let e : i + 1 ≡ suc i = omega arith in ap (λ k. take k xs) e ∙ take-suc xs i d inside

-- what each element adds to a list
pub flat_map_next : {X : Type 0} (f : X → List ℕ) (found : List ℕ) (xs : List X) (i : ℕ) (d : X) → i < length xs → (found ++ flat_map f (take i xs)) ++ f (get_or xs i d) ≡ found ++ flat_map f (take (i + 1) xs)
flat_map_next f found xs i d inside =
    append_assoc found (flat_map f (take i xs)) (f (get_or xs i d))
    ∙ ap (λ ys. found ++ (flat_map f (take i xs) ++ ys)) (sym (append-nil (f (get_or xs i d))))
    ∙ ap (λ ys. found ++ ys) (sym (flat_map-append f (take i xs) (get_or xs i d ∷ [])))
    ∙ ap (λ ys. found ++ flat_map f ys) (sym (take_more xs i d inside))

-- what it adds to a sum
sum_next : {X : Type 0} (f : X → ℕ) (xs : List X) (i : ℕ) (d : X) → i < length xs → sum_by f (take (i + 1) xs) ≡ sum_by f (take i xs) + f (get_or xs i d)
sum_next f xs i d inside =
    let one : sum_by f (get_or xs i d ∷ []) ≡ f (get_or xs i d) = grind (arith, common_steps, sum_by-cons f (get_or xs i d) []) in
    let parts : sum_by f (take i xs ++ (get_or xs i d ∷ [])) ≡ sum_by f (take i xs) + sum_by f (get_or xs i d ∷ []) = sum_by-append f (take i xs) (get_or xs i d ∷ []) in
    ap (λ ys. sum_by f ys) (take_more xs i d inside) ∙ parts ∙ ap (λ n. sum_by f (take i xs) + n) one

-- the same for counts, of which each is capped
pub capped_next : {X : Type 0} (f : X → ℕ) (xs : List X) (i : ℕ) (d : X) → i < length xs → capped (capped (sum_by f (take i xs)) + f (get_or xs i d)) ≡ capped (sum_by f (take (i + 1) xs))
capped_next f xs i d inside =
    let sum : sum_by f (take (i + 1) xs) ≡ sum_by f (take i xs) + f (get_or xs i d) = sum_next f xs i d inside in
    omega arith

pub capped_next_capped : {X : Type 0} (f : X → ℕ) (xs : List X) (i : ℕ) (d : X) → i < length xs → capped (capped (sum_by f (take i xs)) + capped (f (get_or xs i d))) ≡ capped (sum_by f (take (i + 1) xs))
capped_next_capped f xs i d inside =
    let sum : sum_by f (take (i + 1) xs) ≡ sum_by f (take i xs) + f (get_or xs i d) = sum_next f xs i d inside in
    omega arith

-- a test of one element more
any-append : {X : Type 0} (p : X → Bool) (xs : List X) (x : X) → list_any p (xs ++ (x ∷ [])) ≡ (list_any p xs || p x)
any-append p [] x = grind (arith, common_steps)
any-append p (y ∷ ys) x = grind (arith, common_steps, any-append p ys x)

any_next : {X : Type 0} (p : X → Bool) (xs : List X) (i : ℕ) (d : X) → i < length xs → list_any p (take (i + 1) xs) ≡ (list_any p (take i xs) || p (get_or xs i d))
any_next p xs i d inside = ap (λ ys. list_any p ys) (take_more xs i d inside) ∙ any-append p (take i xs) (get_or xs i d)

-- what it adds to a mark
either_flag : (m : ℕ) (inside seen here : Bool) → max (max m (flag (inside && seen))) (flag (inside && here)) ≡ max m (flag (inside && (seen || here)))
either_flag m true true here = grind arith
either_flag m true false here = grind arith
either_flag m false seen here = grind arith

pub mark_next : {X : Type 0} (m : ℕ) (inside : Bool) (p : X → Bool) (xs : List X) (i : ℕ) (d : X) → i < length xs → max (max m (flag (inside && list_any p (take i xs)))) (flag (inside && p (get_or xs i d))) ≡ max m (flag (inside && list_any p (take (i + 1) xs)))
mark_next m inside p xs i d within =
    either_flag m inside (list_any p (take i xs)) (p (get_or xs i d))
    ∙ ap (λ b. max m (flag (inside && b))) (sym (any_next p xs i d within))
