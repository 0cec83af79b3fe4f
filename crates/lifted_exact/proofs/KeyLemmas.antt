-- The vertices at an address, by their tags.
use Rattle.std.proofs.Common.{◌≡◌, ◌⊎◌, ◌<◌, ◌≤◌, ◌+◌, ℕ, zero, suc, Option, Some, None, List, length, slice_get, refl, sym, ap, ◌∙◌, subst, inl, inr, arith}
use Rattle.std.specs.Option.{option_to_list}
use Rattle.std.specs.BTreeMap.{BTreeMap, get}
use Rattle.lift_graph.specs.Graph.{key_cmp, IsIndex, IsListed, address_at, tag_at}
use Rattle.lift_graph.specs.Sites.{vertices_at}
use Rattle.lift_graph.specs.Search.{IsMember}
use Rattle.lift_graph.specs.declared.graph.Key.{Key}
use Rattle.lift_graph.specs.declared.graph.Graph.{Graph}
use Rattle.lift_graph.proofs.IndexLemmas.{get_within, tag_at_below}
use Rattle.lifted_parts.proofs.FoundLemmas.{key_of, key_parts}
use Rattle.lifted_parts.proofs.NumberLemmas.{number_tells}
use Rattle.lifted_parts.specs.Built.{number_of}
use Rattle.lifted_exact.proofs.RankLemmas.{Rises, rises_append, member_split}

-- the index finds a vertex by its address and its tag
pub key_found : (index : BTreeMap Key ℕ) (keys : List Key) → IsIndex index keys → (v a t : ℕ) → v < length keys → address_at keys v ≡ a → tag_at keys v ≡ t → get key_cmp index (record { address = a; tag = t }) ≡ Some v
key_found index keys i v a t l ea et =
    (i (record { address = a; tag = t }) v).1
    (subst (λ y. slice_get keys v ≡ Some (record { address = a; tag = y })) et
    (subst (λ x. slice_get keys v ≡ Some (record { address = x; tag = tag_at keys v })) ea (key_of keys v l)))

-- vertices with one address and one tag are one
pub same_vertex : (index : BTreeMap Key ℕ) (keys : List Key) → IsIndex index keys → (u v : ℕ) → u < length keys → v < length keys → address_at keys u ≡ address_at keys v → tag_at keys u ≡ tag_at keys v → u ≡ v
same_vertex index keys i u v l m ea et =
    let a = key_found index keys i u (address_at keys v) (tag_at keys v) l ea et in
    let b = key_found index keys i v (address_at keys v) (tag_at keys v) m refl refl in
    let e : Some u ≡ Some v = sym a ∙ b in
    let r : u ≡ v = cc in r

the_one : (v : ℕ) (o : Option ℕ) → IsMember v (option_to_list o) → o ≡ Some v
the_one v None h = absurd h
the_one v (Some x) h = elim h as (λ _. Some x ≡ Some v) [ inl e ↦ ap Some e | inr r ↦ absurd r ]

-- the first vertex has its address and its tag before the second
abbrev pub KeyLess : List Key → ℕ → ℕ → Type 0
KeyLess keys u v = (address_at keys u < address_at keys v) ⊎ ((address_at keys u ≡ address_at keys v) × (tag_at keys u < tag_at keys v))

-- a vertex at an address with a tag below a number
abbrev pub IsBelow : List Key → ℕ → ℕ → ℕ → Type 0
IsBelow keys address n v = (v < length keys) × (address_at keys v ≡ address) × (tag_at keys v < n)

pub site_below : (index : BTreeMap Key ℕ) (keys : List Key) → IsIndex index keys → (address n v : ℕ) → IsMember v (vertices_at index address n) → IsBelow keys address n v
site_below index keys i address zero v h = absurd h
site_below index keys i address (suc n) v h =
    let key : Key = record { address = address; tag = n } in
    let o = get key_cmp index key in
    elim (member_split v (vertices_at index address n) (option_to_list o) h) as (λ _. IsBelow keys address (suc n) v) [
      | inl j ↦ (let r = site_below index keys i address n v j in let l = r.2 in (r.0, r.1, omega (arith, l)))
      | inr j ↦ (let got = (i key v).0 (the_one v o j) in let k = key_parts keys v key got in let l = k.1 in (get_within keys v key got, k.0, omega (arith, l)))
    ]

one_rises : {X : Type 0} (R : X → X → Type 0) (o : Option X) → Rises R (option_to_list o)
one_rises R None = tt
one_rises R (Some x) = (λ y m. absurd m, tt)

-- those at an address rise
pub site_rises : (index : BTreeMap Key ℕ) (keys : List Key) → IsIndex index keys → (address n : ℕ) → Rises (KeyLess keys) (vertices_at index address n)
site_rises index keys i address zero = tt
site_rises index keys i address (suc n) =
    let key : Key = record { address = address; tag = n } in
    let o = get key_cmp index key in
    rises_append (KeyLess keys) (vertices_at index address n) (option_to_list o) (site_rises index keys i address n) (one_rises (KeyLess keys) o)
    (λ x y j m.
    let a = site_below index keys i address n x j in
    let b = key_parts keys y key ((i key y).0 (the_one y o m)) in
    let l = a.2 in
    let e = b.1 in
    inr (a.1 ∙ sym b.0, omega (arith, l, e)))

more_below : (n : ℕ) (o : Option ℕ) → n ≤ n + length (option_to_list o)
more_below n o = omega arith

-- vertices with one address and one number there are one
pub same_spot : (g : Graph) → IsListed g → (u v : ℕ) → u < length g.keys.items → v < length g.keys.items → address_at g.keys.items u ≡ address_at g.keys.items v → number_of g u ≡ number_of g v → u ≡ v
same_spot g listed u v l m ea en =
    let keys = g.keys.items in
    let a = address_at keys v in
    let first = number_tells g.index a (tag_at keys u) u g.tags (key_found g.index keys listed.index u a (tag_at keys u) l ea refl) (tag_at_below keys u g.tags l listed.tags) in
    let second = number_tells g.index a (tag_at keys v) v g.tags (key_found g.index keys listed.index v a (tag_at keys v) m refl refl) (tag_at_below keys v g.tags m listed.tags) in
    let number : length (vertices_at g.index a (tag_at keys u)) ≡ number_of g v = ap (λ x. length (vertices_at g.index x (tag_at keys u))) (sym ea) ∙ en in
    let e : Some u ≡ Some v = sym (subst (λ n. slice_get (vertices_at g.index a g.tags) n ≡ Some u) number first) ∙ second in
    let r : u ≡ v = cc in r
