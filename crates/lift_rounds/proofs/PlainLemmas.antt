-- Where no site forks, of several vertices of an address each is kept.
use Rattle.std.proofs.Common.{◌≡◌, ◌<◌, ◌+◌, ◌↔◌, ◌==◌, ℕ, zero, suc, true, false, cond, List, [], ◌∷◌, Some, map, length, slice_get, refl, sym, ap, ◌∙◌, subst, inl, inr, arith}
use Rattle.std.proofs.lemmas.Bool.{cases_eq}
use Rattle.lift_graph.specs.Rows.{is_set, items_at}
use Rattle.lift_graph.specs.Graph.{IsGraph, address_at, tag_at}
use Rattle.lift_graph.specs.Links.{keys_after}
use Rattle.lift_graph.specs.Heads.{IsKept}
use Rattle.lift_graph.specs.Search.{IsMember}
use Rattle.lift_graph.specs.Sites.{site_at}
use Rattle.lift_graph.specs.declared.graph.Key.{Key}
use Rattle.lift_graph.specs.declared.graph.Graph.{Graph}
use Rattle.lift_graph.proofs.MemberLemmas.{member_from}
use Rattle.lift_graph.proofs.SiteLemmas.{site_is}
use Rattle.lift_rounds.specs.Meaning.{Meaning}
use Rattle.lift_rounds.specs.Known.{Known, cases_at, addresses}
use Rattle.lift_rounds.specs.Round.{IsPlain, frame_of}
use Rattle.lift_rounds.specs.Settled.{IsLed}

tag_of : (keys : List Key) (v : ℕ) (k : Key) → slice_get keys v ≡ Some k → tag_at keys v ≡ k.tag
tag_of [] v k h = absurd (let f : ⊥ = cc in f)
tag_of (x ∷ xs) zero k h = let e : x ≡ k = cc in ap (λ (y : Key). y.tag) e
tag_of (x ∷ xs) (suc v) k h = tag_of xs v k h

key_of : (keys : List Key) (v : ℕ) → v < length keys → slice_get keys v ≡ Some (record { address = address_at keys v; tag = tag_at keys v })
key_of [] v h = absurd (omega arith)
key_of (k ∷ ks) zero h = refl
key_of (k ∷ ks) (suc v) h = key_of ks v (omega arith)

-- where its source doesn't fork the tag of a vertex is the source's, and 1 after the entry vertex
row_tag : (keys : List Key) (row : List ℕ) (tag case : ℕ) (as' : List ℕ) (v : ℕ) → map (slice_get keys) row ≡ map Some (keys_after false tag case as') → IsMember v row → tag_at keys v ≡ cond (tag == 0) 1 tag
row_tag keys [] tag case as' v e h = absurd h
row_tag keys (r ∷ rs) tag case [] v e h = absurd (let f : ⊥ = cc in f)
row_tag keys (r ∷ rs) tag case (a ∷ as') v e h =
    let here : slice_get keys r ≡ Some (record { address = a; tag = cond (tag == 0) 1 tag }) = cc in
    let rest : map (slice_get keys) rs ≡ map Some (keys_after false tag (case + 1) as') = cc in
    elim h as (λ _. tag_at keys v ≡ cond (tag == 0) 1 tag) [
      | inl s ↦ subst (λ x. tag_at keys x ≡ cond (tag == 0) 1 tag) s (tag_of keys r (record { address = a; tag = cond (tag == 0) 1 tag }) here)
      | inr m ↦ row_tag keys rs tag (case + 1) as' v rest m
    ]

-- so every vertex but the entry vertex has tag 1
tag_is : {R : Type 0} (m : Meaning R) (g : Graph) (made : List (Known R)) → IsGraph g → IsLed m g made → ((a : ℕ) → m.forks a ≡ false) → (n v : ℕ) → v < n → 0 < v → v < length g.keys.items → tag_at g.keys.items v ≡ 1
tag_is m g made h led none zero v l p w = absurd (omega arith)
tag_is m g made h led none (suc n) v l p w =
    let keys = g.keys.items in
    let birth = h.born v p w in
    let u = birth.0 in
    let in_row = member_from v (items_at g.targets.items u) birth.2.0 birth.2.1 birth.2.2 in
    let at = led u in
    let row = subst (λ b. map (slice_get keys) (items_at g.targets.items u) ≡ map Some (keys_after b (tag_at keys u) 0 (addresses (cases_at made u)))) (none (address_at keys u)) at in
    let tag : tag_at keys v ≡ cond (tag_at keys u == 0) 1 (tag_at keys u) = row_tag keys (items_at g.targets.items u) (tag_at keys u) 0 (addresses (cases_at made u)) v row in_row in
    let less = birth.1 in
    elim (cases_eq u 0) as (λ _. tag_at keys v ≡ 1) [
      | inl e ↦ tag ∙ ap (λ t. cond (t == 0) 1 t) (ap (tag_at keys) e ∙ tag_of keys 0 (record { address = h.entry.0; tag = 0 }) h.entry.1)
      | inr d ↦ tag ∙ ap (λ t. cond (t == 0) 1 t) (tag_is m g made h led none n u (omega arith) (omega arith) (omega arith))
    ]

-- of several vertices of an address each is kept: one is the entry vertex
pub plain : {R : Type 0} (m : Meaning R) (g : Graph) (made : List (Known R)) → IsGraph g → IsLed m g made → ((v : ℕ) → v < length g.keys.items → (is_set g.keeps.items v ≡ true) ↔ IsKept g.keys.items g.inward.items v) → ((a : ℕ) → m.forks a ≡ false) → IsPlain (frame_of m g)
plain m g made h led kept none u v within inside other =
    let keys = g.keys.items in
    let square = h.listed.square.keeps in
    let site = site_is g (address_at keys u) (site_at g u) refl h.listed in
    let at = (site.exact v).0 inside in
    let same : address_at keys v ≡ address_at keys u = at.1 in
    let by_address : address_at keys v ≡ address_at keys 0 → is_set g.keeps.items v ≡ true = λ e. (kept v at.0).1 (inl e) in
    elim (cases_eq v 0) as (λ _. is_set g.keeps.items v ≡ true) [
      | inl e ↦ by_address (ap (address_at keys) e)
      | inr dv ↦ elim (cases_eq u 0) as (λ _. is_set g.keeps.items v ≡ true) [
        | inl e ↦ by_address (same ∙ ap (address_at keys) e)
        | inr du ↦
            (let below : u < length keys = omega (arith, within, square) in
            let tags : tag_at keys v ≡ tag_at keys u = tag_is m g made h led none (suc v) v (omega arith) (omega arith) at.0 ∙ sym (tag_is m g made h led none (suc u) u (omega arith) (omega arith) below) in
            let key : Key = record { address = address_at keys u; tag = tag_at keys u } in
            let mine : slice_get keys v ≡ Some key = key_of keys v at.0 ∙ ap (λ a. Some (record { address = a; tag = tag_at keys v })) same ∙ ap (λ t. Some (record { address = address_at keys u; tag = t })) tags in
            let found : Some v ≡ Some u = sym ((h.listed.index key v).1 mine) ∙ (h.listed.index key u).1 (key_of keys u below) in
            let e : v ≡ u = cc in
            absurd (other e))
      ]
    ]
