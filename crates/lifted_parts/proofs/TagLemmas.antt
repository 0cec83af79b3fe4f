-- Where no site forks each vertex but the entry vertex has tag 1.
use Rattle.std.proofs.Common.{◌≡◌, ◌<◌, ◌+◌, ℕ, zero, suc, false, cond, List, [], ◌∷◌, length, map, Some, slice_get, refl, ap, subst, ◌∙◌, inl, inr, arith}
use Rattle.std.specs.Prelude.{◌==◌}
use Rattle.std.proofs.lemmas.Bool.{cases_lt}
use Rattle.lift_graph.specs.Graph.{IsGraph, address_at, tag_at}
use Rattle.lift_graph.specs.Links.{keys_after}
use Rattle.lift_graph.specs.Rows.{items_at}
use Rattle.lift_graph.specs.Search.{IsMember}
use Rattle.lift_graph.specs.declared.graph.Key.{Key}
use Rattle.lift_graph.specs.declared.graph.Graph.{Graph}
use Rattle.lift_graph.proofs.MemberLemmas.{member_from}
use Rattle.lift_rounds.specs.Meaning.{Meaning}
use Rattle.lift_rounds.specs.Known.{Known, addresses, cases_at}
use Rattle.lift_rounds.specs.Settled.{IsLed}

-- the tag of a vertex whose key is known
tag_of : (keys : List Key) (v : ℕ) (k : Key) → slice_get keys v ≡ Some k → tag_at keys v ≡ k.tag
tag_of [] v k e = absurd (let f : ⊥ = cc in f)
tag_of (x ∷ keys) zero k e = let h : x ≡ k = cc in ap {A = Key} (λ y. y.tag) h
tag_of (x ∷ keys) (suc v) k e = tag_of keys v k e

-- a vertex of a row has the tag of its key
row_tag : (keys : List Key) (tag low case : ℕ) (row as' : List ℕ) → cond (tag == 0) 1 tag ≡ low → map (slice_get keys) row ≡ map Some (keys_after false tag case as') → (v : ℕ) → IsMember v row → tag_at keys v ≡ low
row_tag keys tag low case [] as' l e v h = absurd h
row_tag keys tag low case (u ∷ row) [] l e v h = absurd (let f : ⊥ = cc in f)
row_tag keys tag low case (u ∷ row) (a ∷ as') l e v h =
    let head : slice_get keys u ≡ Some (record { address = a; tag = cond (tag == 0) 1 tag }) = cc in
    let tail : map (slice_get keys) row ≡ map Some (keys_after false tag (case + 1) as') = cc in
    elim h as (λ _. tag_at keys v ≡ low) [
      | inl same ↦ subst (λ w. tag_at keys w ≡ low) same (tag_of keys u (record { address = a; tag = cond (tag == 0) 1 tag }) head ∙ l)
      | inr rest ↦ row_tag keys tag low (case + 1) row as' l tail v rest
    ]

module _ {R : Type 0} (m : Meaning R) (g : Graph) (known : List (Known R)) (plain : (a : ℕ) → m.forks a ≡ false) (graph : IsGraph g) (led : IsLed m g known) where
  -- a target of a vertex of tag 0 or 1 has tag 1
  target_tag : (u v tag : ℕ) → tag_at g.keys.items u ≡ tag → cond (tag == 0) 1 tag ≡ 1 → IsMember v (items_at g.targets.items u) → tag_at g.keys.items v ≡ 1
  target_tag u v tag t l h =
      let as' = addresses (cases_at known u) in
      let e : map (slice_get g.keys.items) (items_at g.targets.items u) ≡ map Some (keys_after false tag 0 as') =
      subst (λ s. map (slice_get g.keys.items) (items_at g.targets.items u) ≡ map Some (keys_after false s 0 as')) t
      (subst (λ b. map (slice_get g.keys.items) (items_at g.targets.items u) ≡ map Some (keys_after b (tag_at g.keys.items u) 0 as')) (plain (address_at g.keys.items u)) (led u)) in
      row_tag g.keys.items tag 1 0 (items_at g.targets.items u) as' l e v h

  tags_below : (n v : ℕ) → v < n → 0 < v → v < length g.keys.items → tag_at g.keys.items v ≡ 1
  tags_below zero v l p w = absurd (omega (arith, l))
  tags_below (suc n) v l p w =
      let born = graph.born v p w in
      let u = born.0 in
      let member = member_from v (items_at g.targets.items u) born.2.0 born.2.1 born.2.2 in
      elim (cases_lt 0 u) as (λ _. tag_at g.keys.items v ≡ 1) [
        | inl above ↦ target_tag u v 1 (tags_below n u (omega (arith, l, born.1)) above (omega (arith, w, born.1))) refl member
        | inr first ↦ (let zero_is : u ≡ 0 = omega (arith, first) in
            let entry = tag_of g.keys.items 0 (record { address = graph.entry.0; tag = 0 }) graph.entry.1 in
            target_tag u v 0 (ap (tag_at g.keys.items) zero_is ∙ entry) refl member)
      ]

  pub tags_low : (v : ℕ) → 0 < v → v < length g.keys.items → tag_at g.keys.items v ≡ 1
  tags_low v p w = tags_below (suc v) v (omega arith) p w
