-- What is known at vertices, one by one.
use Rattle.std.proofs.Common.{◌≡◌, ◌≤◌, ◌++◌, ℕ, zero, suc, List, [], ◌∷◌, Option, Some, None, length, map, take, get_or, ◌<◌, ◌+◌, sym, ◌∙◌, refl, ap, arith}
use Rattle.std.specs.List.{All}
use Rattle.std.proofs.Math.Seq.{take-suc}
use Rattle.std.proofs.lemmas.List.{map-append}
use Rattle.sym_terms.specs.Plain.{PlainSum}
use Rattle.term_bank.specs.Terms.{Grows}
use Rattle.predicates.specs.Predicate.{Predicate}
use Rattle.bank_values.specs.declared.pred.BankPred.{BankPred}
use Rattle.lift_rounds.specs.declared.data.Made.{Made}
use Rattle.lift_rounds.proofs.ReadingLemmas.{held_grows}
use Rattle.lift_rounds.specs.Known.{IsHeld, pred_at, reading}
use Rattle.image_steps.specs.Meant.{known_among}
use Rattle.image_steps.specs.Walks.{IsNumbered}
use Rattle.image_steps.specs.WalkLaws.{walk_has}

-- nothing is known past the end
pub pred_past : {P R : Type 0} (read : P → R) (xs : List (Made P)) (v : ℕ) → length xs ≤ v → pred_at (reading read xs) v ≡ None
pred_past read [] v h = refl
pred_past read (x ∷ xs) zero h = absurd (omega (arith, h))
pred_past read (x ∷ xs) (suc v) h = pred_past read xs v (omega (arith, h))

-- what is known has its numbers still where there are more terms
pub held_more : (old new : List PlainSum) (xs : List (Made BankPred)) → Grows old new → All (λ m. IsHeld (IsNumbered old) m) xs → All (λ m. IsHeld (IsNumbered new) m) xs
held_more old new xs g h = held_grows (IsNumbered old) (IsNumbered new) (λ p k. walk_has old new p g k) xs h

-- what is known of one more vertex comes last
pub known_next : (xs : List (Option Predicate)) (x : Option Predicate) → known_among (xs ++ x ∷ []) ≡ known_among xs ++ known_among (x ∷ [])
known_next [] x = refl
known_next (None ∷ xs) x = known_next xs x
known_next (Some p ∷ xs) x = ap (λ ps. p ∷ ps) (known_next xs x)

pub take_more : {A : Type 0} (xs : List A) (i : ℕ) (d : A) → i < length xs → take (i + 1) xs ≡ take i xs ++ get_or xs i d ∷ []
take_more xs i d inside = let e : i + 1 ≡ suc i = omega arith in ap (λ k. take k xs) e ∙ take-suc xs i d inside

-- one more vertex was read
pub known_more : (f : ℕ → Option Predicate) (site : List ℕ) (i d : ℕ) (known : Option Predicate) (ps qs : List Predicate) → i < length site
    → known ≡ f (get_or site i d) → ps ≡ known_among (map f (take i site)) → qs ≡ ps ++ known_among (known ∷ []) → qs ≡ known_among (map f (take (i + 1) site))
known_more f site i d known ps qs inside e h k =
    let a = ap (map f) (take_more site i d inside) ∙ map-append f (take i site) (get_or site i d ∷ []) in
    let b = ap known_among a ∙ known_next (map f (take i site)) (f (get_or site i d)) in
    k ∙ ap (λ xs. xs ++ known_among (known ∷ [])) h ∙ ap (λ x. known_among (map f (take i site)) ++ known_among (x ∷ [])) e ∙ sym b
