-- The addresses of the vertices, sorted and each once.
use Rattle.std.proofs.Common.{◌≡◌, ◌<◌, ◌+◌, ◌↔◌, ◌⊎◌, ℕ, zero, suc, List, [], ◌∷◌, ◌++◌, length, refl, sym, ap, ◌∙◌, subst, inl, inr, arith}
use Rattle.std.specs.Prelude.{nat_eq, slice_index, IsPermutation, IsSorted}
use Rattle.std.specs.List.{Contains, dedup}
use Rattle.std.specs.List.Retain.{IsFiltered, DiffersFromLast}
use Rattle.std.specs.List.Sorted.{IsStrictlyIncreasing}
use Rattle.std.specs.Ordering.{nat_cmp}
use Rattle.std.proofs.lemmas.Bool.{cases_lt}
use Rattle.std.proofs.lemmas.List.Elements.{Contains-append_left, Contains-push, Contains-push_cases}
use Rattle.std.proofs.lemmas.List.Kept.{Contains-dedup_nat, Contains-from_dedup}
use Rattle.std.proofs.lemmas.List.Filters.{dedup_is}
use Rattle.std.proofs.lemmas.List.Sorted.{Contains-permutation, IsPermutation-sym}
use Rattle.std.proofs.lemmas.Map.Keys.{IsStrictlyIncreasing-dedup}
use Rattle.graph_data.specs.Parts.{Ascends}
use Rattle.lift_graph.specs.Graph.{address_at}
use Rattle.lift_graph.specs.declared.graph.Key.{Key}
use Rattle.lift_graph.specs.declared.graph.Graph.{Graph}
use Rattle.lifted_parts.specs.Built.{AreAddresses}

-- the addresses of the first n vertices
abbrev pub addresses_below : List Key → ℕ → List ℕ
addresses_below keys zero = []
addresses_below keys (suc n) = addresses_below keys n ++ address_at keys n ∷ []

next_index : (x : ℕ) (xs : List ℕ) (k : ℕ) → slice_index (x ∷ xs) (suc k + 1) ≡ slice_index xs (k + 1)
next_index x xs k = let e : suc k + 1 ≡ suc (k + 1) = omega arith in ap (slice_index (x ∷ xs)) e

ascends_from : (xs : List ℕ) → IsStrictlyIncreasing xs → Ascends xs
ascends_from [] h = tt
ascends_from (x ∷ []) h = tt
ascends_from (x ∷ y ∷ xs) h =
    (h 0 (omega arith), ascends_from (y ∷ xs) (λ k l. subst (λ n. slice_index (y ∷ xs) k < n) (next_index x (y ∷ xs) k) (h (suc k) (omega (arith, l)))))

abbrev IsAddress : List Key → ℕ → ℕ → Type 0
IsAddress keys n a = (v : ℕ) × (v < n) × (address_at keys v ≡ a)

from_below : (keys : List Key) (n a : ℕ) → Contains (addresses_below keys n) a → IsAddress keys n a
from_below keys zero a c = absurd (let l = c.1 in omega (arith, l))
from_below keys (suc n) a c = elim (Contains-push_cases (addresses_below keys n) (address_at keys n) a c) as (λ _. IsAddress keys (suc n) a) [
  | inl before ↦ (let h = from_below keys n a before in let l = h.1 in (h.0, omega (arith, l), h.2))
  | inr here ↦ (n, omega arith, here)
]

to_below : (keys : List Key) (n v : ℕ) → v < n → Contains (addresses_below keys n) (address_at keys v)
to_below keys zero v l = absurd (omega (arith, l))
to_below keys (suc n) v l = elim (cases_lt v n) as (λ _. Contains (addresses_below keys (suc n)) (address_at keys v)) [
  | inl below ↦ Contains-append_left (addresses_below keys n) (address_at keys n ∷ []) (address_at keys v) (to_below keys n v below)
  | inr above ↦ (let same : n ≡ v = omega (arith, l, above) in
      subst (λ w. Contains (addresses_below keys (suc n)) (address_at keys w)) same (Contains-push (addresses_below keys n) (address_at keys n)))
]

-- sorted, and each once
pub are_addresses : (g : Graph) (n : ℕ) (xs ys zs : List ℕ) → length g.keys.items ≡ n → xs ≡ addresses_below g.keys.items n → IsPermutation xs ys → IsSorted nat_cmp ys → IsFiltered (DiffersFromLast nat_eq) [] ys zs → AreAddresses g zs
are_addresses g n xs ys zs long e moved sorted kept =
    let same = dedup_is nat_eq ys zs kept in
    let keys = g.keys.items in
    record {
      ascend = subst Ascends (sym same) (ascends_from (dedup nat_eq ys) (IsStrictlyIncreasing-dedup ys sorted));
      exact = λ a. (
        (λ c. subst (λ m. IsAddress keys m a) (sym long) (from_below keys n a
            (subst (λ ks. Contains ks a) e (Contains-permutation ys xs a (IsPermutation-sym xs ys moved)
            (Contains-from_dedup nat_eq ys a (subst (λ ks. Contains ks a) same c)))))),
        (λ h. subst (λ ks. Contains ks a) (sym same) (Contains-dedup_nat ys a (Contains-permutation xs ys a moved
            (subst (λ ks. Contains ks a) (sym e) (subst (Contains (addresses_below keys n)) h.2 (to_below keys n h.0 (subst (λ m. h.0 < m) long h.1))))))),
      );
    }
