-- At an address stand one or two vertices.
use Rattle.std.proofs.Common.{◌≡◌, ◌<◌, ◌≤◌, ◌+◌, ◌-◌, ◌==◌, ℕ, zero, suc, true, false, cond, Option, Some, None, List, [], ◌∷◌, map, length, length-append, slice_get, refl, subst, inl, inr, arith}
use Rattle.std.specs.Option.{option_to_list}
use Rattle.std.specs.BTreeMap.{get}
use Rattle.predicates.specs.Predicate.{Predicate}
use Rattle.lift_graph.specs.Rows.{items_at}
use Rattle.lift_graph.specs.Graph.{key_cmp, address_at, tag_at}
use Rattle.lift_graph.specs.Links.{keys_after}
use Rattle.lift_graph.specs.Sites.{vertices_at}
use Rattle.lift_graph.specs.Search.{IsMember}
use Rattle.lift_graph.specs.declared.graph.Key.{Key}
use Rattle.lift_graph.specs.declared.graph.Graph.{Graph}
use Rattle.lift_graph.proofs.IndexLemmas.{get_within}
use Rattle.lift_graph.proofs.MemberLemmas.{member_from}
use Rattle.lift_rounds.specs.Known.{Known, addresses, cases_at}
use Rattle.site_lines.specs.Subject.{Subject}
use Rattle.lifted_parts.specs.Built.{here}
use Rattle.lifted_parts.specs.Rest.{IsAtRest}
use Rattle.lifted_parts.proofs.FoundLemmas.{key_of, key_parts}
use Rattle.lifted_exact.proofs.OrderLemmas.{vertex_here}
use Rattle.lifted_exact.proofs.PlaceLemmas.{member_map}

next_tag : (t : ℕ) → t ≤ 1 → cond (t == 0) 1 t ≤ 1
next_tag t l = elim (t == 0) as (λ b. cond b 1 t ≤ 1) [ true ↦ omega arith | false ↦ l ]

-- a key after a vertex of tag 0 or 1 has tag 1
key_after : (t k : ℕ) (ns : List ℕ) (key : Key) → t ≤ 1 → IsMember (Some key) (map (λ (x : Key). Some x) (keys_after false t k ns)) → key.tag ≤ 1
key_after t k [] key l m = absurd m
key_after t k (n ∷ ns) key l m = elim m as (λ _. key.tag ≤ 1) [
  | inl e ↦ (let s : record { address = n; tag = cond (t == 0) 1 t } ≡ key = cc in subst (λ (x : Key). x.tag ≤ 1) s (next_tag t l))
  | inr i ↦ key_after t (k + 1) ns key l i
]

module _ (s : Subject) (g : Graph) (known : List (Known Predicate)) (entry : ℕ) (rest : IsAtRest s g known entry) where
  led_tag : (u v : ℕ) (key : Key) → tag_at g.keys.items u ≤ 1 → IsMember v (items_at g.targets.items u) → slice_get g.keys.items v ≡ Some key → key.tag ≤ 1
  led_tag u v key l m e =
      let row = items_at g.targets.items u in
      let i = subst (λ o. IsMember o (map (slice_get g.keys.items) row)) e (member_map (slice_get g.keys.items) v row m) in
      key_after (tag_at g.keys.items u) 0 (addresses (cases_at known u)) key l (subst (IsMember (Some key)) (rest.settled.led u) i)

  tag_below : (n v : ℕ) (key : Key) → v < n → slice_get g.keys.items v ≡ Some key → tag_at g.keys.items v ≤ 1
  tag_below zero v key l e = absurd (omega (arith, l))
  tag_below (suc n) zero key l e = let t = (key_parts g.keys.items 0 (record { address = entry; tag = 0 }) rest.begins).1 in omega (arith, t)
  tag_below (suc n) (suc v) key l e =
      let b = rest.graph.born (suc v) (omega arith) (get_within g.keys.items (suc v) key e) in
      let up = b.1 in
      let m = b.2 in
      let u = b.0 in
      let before = get_within g.keys.items (suc v) key e in
      let source = key_of g.keys.items u (omega (arith, up, before)) in
      let t = tag_below n u (record { address = address_at g.keys.items u; tag = tag_at g.keys.items u }) (omega (arith, up, l)) source in
      let small = led_tag u (suc v) key t (member_from (suc v) (items_at g.targets.items u) m.0 m.1 m.2) e in
      let same = (key_parts g.keys.items (suc v) key e).1 in
      omega (arith, small, same)

  found_tag : (a n : ℕ) (o : Option ℕ) → get key_cmp g.index (record { address = a; tag = n }) ≡ o → length (option_to_list o) ≤ 2 - n
  found_tag a n None e = omega arith
  found_tag a n (Some v) e =
      let key : Key = record { address = a; tag = n } in
      let got = (rest.graph.listed.index key v).0 e in
      let same = (key_parts g.keys.items v key got).1 in
      let small = tag_below (suc v) v key (omega arith) got in
      omega (arith, same, small)

  few : (a n : ℕ) → (length (vertices_at g.index a n) ≤ n) × (length (vertices_at g.index a n) ≤ 2)
  few a zero = (omega arith, omega arith)
  few a (suc n) =
      let o = get key_cmp g.index (record { address = a; tag = n }) in
      let more = found_tag a n o refl in
      let long = length-append (vertices_at g.index a n) (option_to_list o) in
      let h = few a n in
      let p = h.0 in
      let q = h.1 in
      let one = option_long o in
      (omega (arith, long, one, p), omega (arith, long, one, more, p, q))
    where
      option_long : (o : Option ℕ) → length (option_to_list o) ≤ 1
      option_long None = omega arith
      option_long (Some v) = omega arith

  -- two at most
  pub few_here : (a : ℕ) → length (here g a) ≤ 2
  few_here a = (few a g.tags).1

  some_member : (v : ℕ) (xs : List ℕ) → IsMember v xs → 1 ≤ length xs
  some_member v [] m = absurd m
  some_member v (x ∷ xs) m = omega arith

  -- and one at least, where one is
  pub some_here : (v : ℕ) → v < length g.keys.items → 1 ≤ length (here g (address_at g.keys.items v))
  some_here v l = some_member v (here g (address_at g.keys.items v)) (vertex_here g rest.graph.listed v l)
