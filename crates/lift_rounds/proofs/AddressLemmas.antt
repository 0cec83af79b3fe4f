-- The cases of two lists, one by one.
use Rattle.std.proofs.Common.{◌≡◌, ◌≢◌, ◌<◌, ◌+◌, ℕ, suc, List, [], ◌∷◌, length, map, take, get_or, refl, sym, ap, ◌∙◌, arith, zero}
use Rattle.std.proofs.lemmas.List.{take_more_same, length-map}
use Rattle.lift_rounds.specs.declared.data.Case.{Case}
use Rattle.lift_rounds.specs.Known.{addresses, case_reading}

pub length_addresses : {P : Type 0} (xs : List (Case P)) → length (addresses xs) ≡ length xs
length_addresses {P} xs = length-map xs (λ (c : Case P). c.address)

-- what is read at a place has the address there
pub addresses_at : {P : Type 0} (xs : List (Case P)) (i : ℕ) (x : Case P) → i < length xs → get_or (addresses xs) i 0 ≡ (get_or xs i x).address
addresses_at [] i x h = absurd (omega arith)
addresses_at (y ∷ ys) zero x h = refl
addresses_at (y ∷ ys) (suc i) x h = addresses_at ys i x (omega arith)

pub addresses_more : {P : Type 0} (xs ys : List (Case P)) (i : ℕ) (x y : Case P) → i < length xs → i < length ys → (get_or xs i x).address ≡ (get_or ys i y).address → take i (addresses xs) ≡ take i (addresses ys) → take (i + 1) (addresses xs) ≡ take (i + 1) (addresses ys)
addresses_more xs ys i x y hx hy e h =
    take_more_same (addresses xs) (addresses ys) i 0 (rw (length_addresses xs) hx) (rw (length_addresses ys) hy) h
    (addresses_at xs i x hx ∙ e ∙ sym (addresses_at ys i y hy))

pub addresses_differ : {P : Type 0} (xs ys : List (Case P)) (i : ℕ) (x y : Case P) → i < length xs → i < length ys → (get_or xs i x).address ≢ (get_or ys i y).address → addresses xs ≢ addresses ys
addresses_differ xs ys i x y hx hy n h = n (sym (addresses_at xs i x hx) ∙ ap (λ s. get_or s i 0) h ∙ addresses_at ys i y hy)

reading_at : {P R : Type 0} (read : P → R) (xs : List (Case P)) (i : ℕ) (x : Case P) (d : Case R) → i < length xs → get_or (map (case_reading read) xs) i d ≡ case_reading read (get_or xs i x)
reading_at read [] i x d h = absurd (omega arith)
reading_at read (y ∷ ys) zero x d h = refl
reading_at read (y ∷ ys) (suc i) x d h = reading_at read ys i x d (omega arith)

-- two cases that read the same
pub readings_more : {P R : Type 0} (read : P → R) (xs ys : List (Case P)) (i : ℕ) (x y : Case P) → i < length xs → i < length ys → x ≡ get_or xs i x → y ≡ get_or ys i y → case_reading read x ≡ case_reading read y → take i (map (case_reading read) xs) ≡ take i (map (case_reading read) ys) → take (i + 1) (map (case_reading read) xs) ≡ take (i + 1) (map (case_reading read) ys)
readings_more read xs ys i x y hx hy ex ey e h =
    let d = case_reading read x in
    take_more_same (map (case_reading read) xs) (map (case_reading read) ys) i d (rw (length-map xs (case_reading read)) hx) (rw (length-map ys (case_reading read)) hy) h
    (reading_at read xs i x d hx ∙ ap (case_reading read) (sym ex) ∙ e ∙ ap (case_reading read) ey ∙ sym (reading_at read ys i y d hy))

pub readings_differ : {P R : Type 0} (read : P → R) (xs ys : List (Case P)) (i : ℕ) (x y : Case P) → i < length xs → i < length ys → x ≡ get_or xs i x → y ≡ get_or ys i y → case_reading read x ≢ case_reading read y → map (case_reading read) xs ≢ map (case_reading read) ys
readings_differ read xs ys i x y hx hy ex ey n h =
    let d = case_reading read x in
    n (ap (case_reading read) ex ∙ sym (reading_at read xs i x d hx) ∙ ap (λ s. get_or s i d) h ∙ reading_at read ys i y d hy ∙ ap (case_reading read) (sym ey))
