-- The graph of an entry vertex alone.
use Rattle.std.proofs.Common.{◌≡◌, ◌<◌, ◌+◌, ◌⊎◌, ℕ, Some, [], length, slice_get, sym, ap, ◌∙◌, subst, inl, inr, arith}
use Rattle.std.specs.List.{All}
use Rattle.std.proofs.lemmas.List.Elements.{All-nil}
use Rattle.lift_graph.specs.Rows.{items_at}
use Rattle.lift_graph.specs.Graph.{IsListed, IsExtended, IsGraph}
use Rattle.lift_graph.specs.declared.graph.Key.{Key}
use Rattle.lift_graph.specs.declared.graph.Graph.{Graph}
use Rattle.lift_graph.proofs.IndexLemmas.{get_within}

-- what was found is the one vertex
pub first_is : (old new : Graph) (v : ℕ) (key : Key) → old.keys.items ≡ [] → slice_get new.keys.items v ≡ Some key → (length new.keys.items ≡ length old.keys.items) ⊎ ((v ≡ length old.keys.items) × (length new.keys.items ≡ length old.keys.items + 1)) → (slice_get new.keys.items 0 ≡ Some key) × (length new.keys.items ≡ 1)
first_is old new v key none found fresh =
    let zero_old : length old.keys.items ≡ 0 = ap length none in
    elim fresh as (λ _. (slice_get new.keys.items 0 ≡ Some key) × (length new.keys.items ≡ 1)) [
      | inl same ↦ absurd (let l = get_within new.keys.items v key found in omega arith)
      | inr w ↦ (let at : v ≡ 0 = (let a = w.0 in omega arith) in (subst (λ i. slice_get new.keys.items i ≡ Some key) at found, let b = w.1 in omega arith))
    ]

pub first_edges : (old new : Graph) → old.targets.items ≡ [] → IsExtended old new → (u : ℕ) → items_at new.targets.items u ≡ []
first_edges old new none x u = x.targets u ∙ ap (λ ts. items_at ts u) none

pub first_graph : (new : Graph) (address : ℕ) → IsListed new → slice_get new.keys.items 0 ≡ Some (record { address = address; tag = 0 }) → length new.keys.items ≡ 1 → ((u : ℕ) → items_at new.targets.items u ≡ []) → IsGraph new
first_graph new address listed entry one edges = record {
  listed = listed;
  entry = (address, entry);
  within = λ u. subst (All (λ v. (0 < v) × (v < length new.keys.items))) (sym (edges u)) (All-nil (λ v. (0 < v) × (v < length new.keys.items)));
  born = λ v a l. absurd (omega arith);
}
