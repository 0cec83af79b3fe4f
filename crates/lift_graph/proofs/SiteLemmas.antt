-- The vertices at an address.
use Rattle.std.proofs.Common.{◌≡◌, ◌<◌, ◌+◌, ◌⊎◌, ℕ, zero, suc, Option, None, Some, List, [], ◌∷◌, ◌++◌, map, length, slice_get, slice_index, refl, sym, ap, ◌∙◌, subst, inl, inr, arith, append-nil}
use Rattle.std.specs.List.{All}
use Rattle.std.specs.List.Sorted.{IsStrictlyIncreasing}
use Rattle.std.specs.Option.{option_to_list}
use Rattle.std.specs.BTreeMap.{BTreeMap, get}
use Rattle.std.proofs.lemmas.Bool.{cases_eq}
use Rattle.std.proofs.lemmas.List.{map_push}
use Rattle.std.proofs.lemmas.List.Elements.{All-append, All-weaker, All-cons, All-nil, All-head, All-tail}
use Rattle.lift_graph.specs.Graph.{key_cmp, IsIndex, IsListed, address_at, tag_at}
use Rattle.lift_graph.specs.Sites.{vertices_at, IsSite}
use Rattle.lift_graph.specs.Search.{IsMember}
use Rattle.lift_graph.specs.declared.graph.Key.{Key}
use Rattle.lift_graph.specs.declared.graph.Graph.{Graph}
use Rattle.lift_graph.proofs.IndexLemmas.{get_within, tag_at_below}
use Rattle.lift_graph.proofs.MemberLemmas.{contains_from, member_from, member_left, member_right}

-- one tag more
pub site_more : (index : BTreeMap Key ℕ) (address tag : ℕ) → vertices_at index address (tag + 1) ≡ vertices_at index address tag ++ option_to_list (get key_cmp index (record { address = address; tag = tag }))
site_more index address tag = let e : tag + 1 ≡ suc tag = omega arith in ap (vertices_at index address) e

-- a vertex has its address and its tag
get_key : (keys : List Key) (v : ℕ) → v < length keys → slice_get keys v ≡ Some (record { address = address_at keys v; tag = tag_at keys v })
get_key [] v h = absurd (omega arith)
get_key (k ∷ ks) zero h = refl
get_key (k ∷ ks) (suc v) h = get_key ks v (omega arith)

key_at : (keys : List Key) (v : ℕ) (k : Key) → slice_get keys v ≡ Some k → (address_at keys v ≡ k.address) × (tag_at keys v ≡ k.tag)
key_at [] v k h = absurd (let f : ⊥ = cc in f)
key_at (x ∷ xs) zero k h = let e : x ≡ k = cc in (ap (λ (y : Key). y.address) e, ap (λ (y : Key). y.tag) e)
key_at (x ∷ xs) (suc v) k h = key_at xs v k h

member_split : (v : ℕ) (xs ys : List ℕ) → IsMember v (xs ++ ys) → IsMember v xs ⊎ IsMember v ys
member_split v [] ys h = inr h
member_split v (x ∷ xs) ys h = elim h as (λ _. IsMember v (x ∷ xs) ⊎ IsMember v ys) [
  | inl e ↦ inl (inl e)
  | inr r ↦ elim (member_split v xs ys r) as (λ _. IsMember v (x ∷ xs) ⊎ IsMember v ys) [ inl i ↦ inl (inr i) | inr i ↦ inr i ]
]

the_one : (v : ℕ) (o : Option ℕ) → IsMember v (option_to_list o) → o ≡ Some v
the_one v None h = absurd h
the_one v (Some x) h = elim h as (λ _. Some x ≡ Some v) [ inl e ↦ ap Some e | inr r ↦ absurd r ]

-- what the index finds stands among them
site_all : (index : BTreeMap Key ℕ) (address n v tag : ℕ) → tag < n → get key_cmp index (record { address = address; tag = tag }) ≡ Some v → IsMember v (vertices_at index address n)
site_all index address zero v tag l e = absurd (omega arith)
site_all index address (suc n) v tag l e =
    let last = option_to_list (get key_cmp index (record { address = address; tag = n })) in
    elim (cases_eq tag n) as (λ _. IsMember v (vertices_at index address n ++ last)) [
      | inl s ↦ member_right v (vertices_at index address n) last (subst (λ o. IsMember v (option_to_list o)) (sym (subst (λ t. get key_cmp index (record { address = address; tag = t }) ≡ Some v) s e)) (inl refl))
      | inr d ↦ member_left v (vertices_at index address n) last (site_all index address n v tag (omega arith) e)
    ]

-- and nothing else does
site_only : (index : BTreeMap Key ℕ) (address n v : ℕ) → IsMember v (vertices_at index address n) → (tag : ℕ) × (get key_cmp index (record { address = address; tag = tag }) ≡ Some v)
site_only index address zero v h = absurd h
site_only index address (suc n) v h =
    let o = get key_cmp index (record { address = address; tag = n }) in
    elim (member_split v (vertices_at index address n) (option_to_list o) h) as (λ _. (tag : ℕ) × (get key_cmp index (record { address = address; tag = tag }) ≡ Some v)) [
      | inl i ↦ site_only index address n v i
      | inr i ↦ (n, the_one v o i)
    ]

increasing_tail : (x : ℕ) (xs : List ℕ) → IsStrictlyIncreasing (x ∷ xs) → IsStrictlyIncreasing xs
increasing_tail x xs h k l = subst (λ i. slice_index xs k < slice_index (x ∷ xs) i) (let e : suc k + 1 ≡ suc (k + 1) = omega arith in e) (h (suc k) (omega arith))

increasing_push : (xs : List ℕ) (x : ℕ) → IsStrictlyIncreasing xs → All (λ y. y < x) xs → IsStrictlyIncreasing (xs ++ x ∷ [])
increasing_push [] x h a k l = absurd (omega arith)
increasing_push (y ∷ []) x h a zero l = All-head (λ z. z < x) y [] a
increasing_push (y ∷ []) x h a (suc k) l = absurd (omega arith)
increasing_push (y ∷ z ∷ zs) x h a zero l = h 0 (omega arith)
increasing_push (y ∷ z ∷ zs) x h a (suc k) l =
    let more = z ∷ zs ++ x ∷ [] in
    let e : suc k + 1 ≡ suc (k + 1) = omega arith in
    subst (λ i. slice_index more k < slice_index (y ∷ more) i) (sym e) (increasing_push (z ∷ zs) x (increasing_tail y (z ∷ zs) h) (All-tail (λ w. w < x) y (z ∷ zs) a) k (omega arith))

-- the tags ascend, and are below a number
abbrev Rise : List ℕ → ℕ → Type 0
Rise tags n = IsStrictlyIncreasing tags × All (λ t. t < n) tags

rise_more : (keys : List Key) (xs : List ℕ) (n : ℕ) (o : Option ℕ) → Rise (map (tag_at keys) xs) n → ((v : ℕ) → o ≡ Some v → tag_at keys v ≡ n) → Rise (map (tag_at keys) (xs ++ option_to_list o)) (suc n)
rise_more keys xs n None h e = subst (λ ys. Rise (map (tag_at keys) ys) (suc n)) (sym (append-nil xs)) (h.0, All-weaker (λ t. t < n) (λ t. t < suc n) (λ t l. omega arith) (map (tag_at keys) xs) h.1)
rise_more keys xs n (Some v) h e =
    let tags = map (tag_at keys) xs in
    let both : Rise (tags ++ n ∷ []) (suc n) = (
      increasing_push tags n h.0 h.1,
      All-append (λ t. t < suc n) tags (n ∷ []) (All-weaker (λ t. t < n) (λ t. t < suc n) (λ t l. omega arith) tags h.1) (All-cons (λ t. t < suc n) n [] (omega arith) (All-nil (λ t. t < suc n))),
    ) in
    subst (λ ys. Rise ys (suc n)) (ap (λ t. tags ++ t ∷ []) (sym (e v refl)) ∙ sym (map_push (tag_at keys) xs v)) both

site_rises : (index : BTreeMap Key ℕ) (keys : List Key) (address n : ℕ) → IsIndex index keys → Rise (map (tag_at keys) (vertices_at index address n)) n
site_rises index keys address zero i = (λ k l. absurd (omega arith), All-nil (λ t. t < 0))
site_rises index keys address (suc n) i =
    let key : Key = record { address = address; tag = n } in
    rise_more keys (vertices_at index address n) n (get key_cmp index key) (site_rises index keys address n i) (λ v e. (key_at keys v key ((i key v).0 e)).1)

-- the vertices that the index finds, tag by tag, are those at the address
pub site_is : (g : Graph) (address : ℕ) (vertices : List ℕ) → vertices ≡ vertices_at g.index address g.tags → IsListed g → IsSite g.keys.items address vertices
site_is g address vertices same listed =
    let keys = g.keys.items in
    let there = vertices_at g.index address g.tags in
    let site : IsSite keys address there = record {
      exact = λ v. (
        λ c.
            let of = site_only g.index address g.tags v (member_from v there c.0 c.1 c.2) in
            let key : Key = record { address = address; tag = of.0 } in
            let got = (listed.index key v).0 of.1 in
            (get_within keys v key got, (key_at keys v key got).0),
        λ h.
            let tag = tag_at keys v in
            let key : Key = record { address = address; tag = tag } in
            let got : slice_get keys v ≡ Some key = subst (λ a. slice_get keys v ≡ Some (record { address = a; tag = tag })) h.1 (get_key keys v h.0) in
            contains_from v there (site_all g.index address g.tags v tag (tag_at_below keys v g.tags h.0 listed.tags) ((listed.index key v).1 got)),
      );
      ascends = (site_rises g.index keys address g.tags listed.index).0;
    } in
    subst (IsSite keys address) (sym same) site
