-- The written order of the vertices is that of the sites, and of the vertices there.
use Rattle.std.proofs.Common.{◌≡◌, ◌≢◌, ◌⊎◌, ◌<◌, ◌≤◌, ◌+◌, ℕ, suc, Bool, false, eqb, eqb-true, eq-eqb, true≢false, Some, List, [], ◌∷◌, length, slice_get, refl, sym, ◌∙◌, subst, inl, inr, arith}
use Rattle.std.specs.Prelude.{IsPermutation, IsSortedBy, IsSortedByKey, slice_index_or, Decides}
use Rattle.std.specs.List.{All, AllPairs, flat_map, range_with_len}
use Rattle.std.specs.Option.{option_cmp}
use Rattle.std.specs.BTreeMap.{BTreeMap}
use Rattle.std.specs.Ordering.{is_lt, nat_cmp, ordering_then, MatchOrdering}
use Rattle.std.specs.declared.cmp.Ordering.{Ordering}
use Rattle.std.specs.declared.cmp.Ordering.TheVariants.{Less, Equal, Greater}
use Rattle.std.specs.Cmp.{ranks, nat_eq_equiv}
use Rattle.std.proofs.lemmas.Bool.{cases_lt}
use Rattle.std.proofs.lemmas.List.FromFn.{length-range_with_len, get_or-range_with_len}
use Rattle.std.proofs.lemmas.List.Sorted.{All-permutation}
use Rattle.std.proofs.lemmas.List.Elements.{All-contains, All-head, All-tail}
use Rattle.std.proofs.lemmas.Map.Keys.{IsDistinct-IsPermutation}
use Rattle.std.proofs.lemmas.Map.Made.{AllPairs-from_IsDistinct, IsDistinct-from_AllPairs}
use Rattle.lift_graph.specs.Graph.{key_cmp, IsIndex, IsListed, address_at, tag_at}
use Rattle.lift_graph.specs.Edges.{IsWoven, IsWritten}
use Rattle.lift_graph.specs.Search.{IsMember}
use Rattle.lift_graph.specs.declared.graph.Key.{Key}
use Rattle.lift_graph.specs.declared.graph.Graph.{Graph}
use Rattle.lift_graph.proofs.MemberLemmas.{contains_from, member_from}
use Rattle.lift_graph.proofs.EdgeLemmas.{member_flat}
use Rattle.lift_graph.proofs.SiteLemmas.{site_is}
use Rattle.lifted_parts.specs.Built.{AreAddresses, here}
use Rattle.lifted_exact.proofs.RankLemmas.{Rises, rises_flat, same_items, member_of_flat}
use Rattle.lifted_exact.proofs.KeyLemmas.{KeyLess, same_vertex, site_below, site_rises}
use Rattle.lifted_parts.proofs.FoundLemmas.{key_of}

never_both : (keys : List Key) (u v : ℕ) → KeyLess keys u v → KeyLess keys v u → ⊥
never_both keys u v h k = elim h as (λ _. ⊥) [
  | inl a ↦ elim k as (λ _. ⊥) [ inl b ↦ omega (arith, a, b) | inr b ↦ (let e = b.0 in omega (arith, a, e)) ]
  | inr a ↦ elim k as (λ _. ⊥) [ inl b ↦ (let e = a.0 in omega (arith, b, e)) | inr b ↦ (let x = a.1 in let y = b.1 in omega (arith, x, y)) ]
]

chain : (keys : List Key) (u v w : ℕ) → KeyLess keys u v → KeyLess keys v w → KeyLess keys u w
chain keys u v w h k = elim h as (λ _. KeyLess keys u w) [
  | inl a ↦ elim k as (λ _. KeyLess keys u w) [ inl b ↦ inl (omega (arith, a, b)) | inr b ↦ (let e = b.0 in inl (omega (arith, a, e))) ]
  | inr a ↦ elim k as (λ _. KeyLess keys u w) [ inl b ↦ (let e = a.0 in inl (omega (arith, b, e))) | inr b ↦ (let x = a.1 in let y = b.1 in inr (a.0 ∙ b.0, omega (arith, x, y))) ]
]

pick : (o p : Ordering) (ay ax ty tx : ℕ) → MatchOrdering o (ay < ax) (ay ≡ ax) (ax < ay) → MatchOrdering p (ty < tx) (ty ≡ tx) (tx < ty) → is_lt (ordering_then o p) ≡ false → (ax < ay) ⊎ ((ax ≡ ay) × (tx ≤ ty))
pick Less p ay ax ty tx m n h = absurd (true≢false h)
pick Equal Less ay ax ty tx m n h = absurd (true≢false h)
pick Equal Equal ay ax ty tx m n h = inr (sym m, omega (arith, n))
pick Equal Greater ay ax ty tx m n h = inr (sym m, omega (arith, n))
pick Greater p ay ax ty tx m n h = inl m

-- of two vertices the one that isn't less comes after the other
less_by : (index : BTreeMap Key ℕ) (keys : List Key) → IsIndex index keys → (x y : ℕ) → x < length keys → y < length keys → x ≢ y → is_lt (option_cmp key_cmp (slice_get keys y) (slice_get keys x)) ≡ false → KeyLess keys x y
less_by index keys i x y l m n h =
    let a = subst (λ o. is_lt (option_cmp key_cmp o (slice_get keys x)) ≡ false) (key_of keys y m) h in
    let b = subst (λ o. is_lt (option_cmp key_cmp (Some (record { address = address_at keys y; tag = tag_at keys y })) o) ≡ false) (key_of keys x l) a in
    let ay = address_at keys y in
    let ax = address_at keys x in
    let ty = tag_at keys y in
    let tx = tag_at keys x in
    elim (pick (nat_cmp ay ax) (nat_cmp ty tx) ay ax ty tx (ranks ay ax) (ranks ty tx) b) as (λ _. KeyLess keys x y) [
      | inl up ↦ inl up
      | inr both ↦ elim (cases_lt tx ty) as (λ _. KeyLess keys x y) [
        | inl up ↦ inr (both.0, up)
        | inr over ↦ (let most = both.1 in absurd (n (same_vertex index keys i x y l m both.0 (omega (arith, over, most)))))
      ]
    ]

sorted_rest : (lt : ℕ → ℕ → Bool) (x : ℕ) (xs : List ℕ) → IsSortedBy lt (x ∷ xs) → IsSortedBy lt xs
sorted_rest lt x xs h k d z l =
    let e : suc k + 1 ≡ suc (k + 1) = omega arith in
    subst (λ j. lt (slice_index_or (x ∷ xs) j d) (slice_index_or xs k d) ≡ false) e (h (suc k) d (omega arith) (omega (arith, l)))

-- sorted vertices, each once, rise
pairs_rest : (x : ℕ) (xs : List ℕ) → AllPairs (λ a b. a ≢ b) (x ∷ xs) → AllPairs (λ a b. a ≢ b) xs
pairs_rest x xs h = λ i j d l m. h (suc i) (suc j) d (omega arith) (omega (arith, m))

rises_from : (index : BTreeMap Key ℕ) (keys : List Key) → IsIndex index keys → (order : List ℕ) → All (λ v. v < length keys) order → AllPairs (λ a b. a ≢ b) order → IsSortedByKey (slice_get keys) (option_cmp key_cmp) order → Rises (KeyLess keys) order
rises_from index keys i [] all apart sorted = tt
rises_from index keys i (x ∷ []) all apart sorted = (λ y m. absurd m, tt)
rises_from index keys i (x ∷ y ∷ zs) all apart sorted =
    let rest = All-tail (λ v. v < length keys) x (y ∷ zs) all in
    let more = rises_from index keys i (y ∷ zs) rest (pairs_rest x (y ∷ zs) apart) (sorted_rest (λ a b. is_lt (option_cmp key_cmp (slice_get keys a) (slice_get keys b))) x (y ∷ zs) sorted) in
    let first : KeyLess keys x y = less_by index keys i x y (All-head (λ v. v < length keys) x (y ∷ zs) all) (All-head (λ v. v < length keys) y zs rest) (apart 0 1 x (omega arith) (omega arith)) (sorted 0 x (omega arith) (omega arith)) in
    (λ w m. elim m as (λ _. KeyLess keys x w) [ inl e ↦ subst (KeyLess keys x) e first | inr j ↦ chain keys x y w first (more.0 w j) ], more)

range_apart : (n : ℕ) → AllPairs (λ a b. a ≢ b) (range_with_len 0 n)
range_apart n i j d l m e =
    let k = subst (λ z. j < z) (length-range_with_len 0 n) m in
    let a = get_or-range_with_len 0 n i d (omega (arith, l, k)) in
    let b = get_or-range_with_len 0 n j d k in
    omega (arith, a, b, e, l)

range_below : (n : ℕ) → All (λ v. v < n) (range_with_len 0 n)
range_below n k d l =
    let m = subst (λ z. k < z) (length-range_with_len 0 n) l in
    let a = get_or-range_with_len 0 n k d m in
    omega (arith, a, m)

eqb_decides : (a b : ℕ) → Decides (eqb a b) (a ≡ b)
eqb_decides a b = (eqb-true a b, eq-eqb a b)

order_apart : (n : ℕ) (order : List ℕ) → IsPermutation (range_with_len 0 n) order → AllPairs (λ a b. a ≢ b) order
order_apart n order once = AllPairs-from_IsDistinct eqb_decides order (IsDistinct-IsPermutation eqb nat_eq_equiv.symm (range_with_len 0 n) order once (IsDistinct-from_AllPairs eqb_decides (range_with_len 0 n) (range_apart n)))

-- the vertices in order
pub order_below : (n : ℕ) (order : List ℕ) → IsPermutation (range_with_len 0 n) order → All (λ v. v < n) order
order_below n order once = All-permutation (λ v. v < n) (range_with_len 0 n) order once (range_below n)

order_rises : (g : Graph) (order : List ℕ) → IsIndex g.index g.keys.items → IsWritten g.keys.items order → Rises (KeyLess g.keys.items) order
order_rises g order i w = rises_from g.index g.keys.items i order (order_below (length g.keys.items) order w.once) (order_apart (length g.keys.items) order w.once) w.ascends

-- a vertex stands at its address
pub vertex_here : (g : Graph) → IsListed g → (v : ℕ) → v < length g.keys.items → IsMember v (here g (address_at g.keys.items v))
vertex_here g listed v l =
    let a = address_at g.keys.items v in
    let c = ((site_is g a (here g a) refl listed).exact v).1 (l, refl) in
    member_from v (here g a) c.0 c.1 c.2

-- the vertices of all sites
pub order_is : (g : Graph) (order addresses : List ℕ) → IsListed g → IsWoven g order → AreAddresses g addresses → order ≡ flat_map (here g) addresses
order_is g order addresses listed woven all =
    let keys = g.keys.items in
    let i = listed.index in
    same_items (KeyLess keys) (never_both keys) order (flat_map (here g) addresses) (order_rises g order i woven.written)
    (rises_flat (KeyLess keys) (here g) addresses all.ascend (λ a. site_rises g.index keys i a g.tags)
    (λ a b x y l j m.
    let p = site_below g.index keys i a g.tags x j in
    let q = site_below g.index keys i b g.tags y m in
    let e = p.1 in
    let f = q.1 in
    inl (omega (arith, l, e, f))))
    (λ v m.
    let l = All-contains (λ v. v < length keys) order v (order_below (length keys) order woven.written.once) (contains_from v order m) in
    let c = (all.exact (address_at keys v)).1 (v, l, refl) in
    member_flat (here g) v (address_at keys v) addresses (member_from (address_at keys v) addresses c.0 c.1 c.2) (vertex_here g listed v l))
    (λ v m.
    let of = member_of_flat (here g) v addresses m in
    let b = site_below g.index keys i of.0 g.tags v of.2 in
    let c = woven.all v b.0 in
    member_from v order c.0 c.1 c.2)
