-- Lemmas on a loop that tests each element of a list and stops at the first that fails.
use Rattle.std.proofs.Common.{◌≡◌, ℕ, ◌+◌, ◌<◌, ◌≤◌, ◌↔◌, IsTrue, Bool, true, false, List, length, take, get_or, sym, refl, subst}
use Rattle.std.specs.Prelude.{All}
use Rattle.std.proofs.lemmas.List.{take_all}
use Rattle.std.proofs.lemmas.List.Elements.{All-get_or, All-more}

module _ {X : Type 0} (Holds : X → Type 0) (xs : List X) (i : ℕ) where
  -- an element that fails the test refutes the fact of each
  pub stops :
      (x : X) (test : Bool) → i < length xs → x ≡ get_or xs i x → IsTrue test ↔ Holds x → test ≡ false →
      IsTrue false ↔ All Holds xs
  stops x test inside is decides fails =
      (λ f. cc, λ all. let passes : test ≡ true = decides.1 (subst Holds (sym is) (All-get_or Holds xs i x inside all)) in cc)

  -- an element that passes it extends the fact by one
  pub goes_on :
      (x : X) (test : Bool) → i < length xs → x ≡ get_or xs i x → IsTrue test ↔ Holds x → test ≡ true →
      All Holds (take i xs) → All Holds (take (i + 1) xs)
  goes_on x test inside is decides passes all =
      All-more Holds xs i x inside all (subst Holds is (decides.0 passes))

  -- at the end the fact holds of each
  pub ends : length xs ≤ i → All Holds (take i xs) → IsTrue true ↔ All Holds xs
  ends past all = (λ t. subst (All Holds) (take_all i xs past) all, λ holds. refl)
