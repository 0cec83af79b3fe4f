-- The edges to each vertex, in an order of the sources.
use Rattle.std.proofs.Common.{◌≡◌, ◌<◌, ◌+◌, ◌==◌, ◌↔◌, ℕ, zero, suc, Bool, true, false, cond, List, [], ◌∷◌, Some, length, slice_get, refl, sym, ap, ◌∙◌, subst, inl, inr, arith, eq-eqb}
use Rattle.std.specs.List.{All, Contains, flat_map}
use Rattle.std.proofs.lemmas.Bool.{cases_lt, ne_eqb}
use Rattle.std.proofs.lemmas.List.{get_or_default}
use Rattle.std.proofs.lemmas.List.Elements.{All-append, All-nil, All-cons, All-head, All-tail}
use Rattle.std.specs.declared.vec.Vec.{Vec}
use Rattle.std.specs.declared.alloc.Global.{Global}
use Rattle.lift_graph.specs.Rows.{is_set, items_at}
use Rattle.lift_graph.specs.Graph.{IsGraph}
use Rattle.lift_graph.specs.Edges.{places_to, places_from}
use Rattle.lift_graph.specs.Heads.{IsSource, IsWithin, IsKept, IsRooted}
use Rattle.lift_graph.specs.Search.{IsMember}
use Rattle.lift_graph.specs.declared.graph.Place.{Place}
use Rattle.lift_graph.specs.declared.graph.Graph.{Graph}
use Rattle.lift_graph.proofs.IndexLemmas.{get_within}
use Rattle.lift_graph.proofs.RowLemmas.{items_at_past}
use Rattle.lift_graph.proofs.MemberLemmas.{contains_from, member_from, member_left, member_right}

pub member_flat : {A B : Type 0} (f : A → List B) (x : B) (a : A) (as' : List A) → IsMember a as' → IsMember x (f a) → IsMember x (flat_map f as')
member_flat f x a [] h k = absurd h
member_flat f x a (b ∷ bs) h k = elim h as (λ _. IsMember x (flat_map f (b ∷ bs))) [ inl e ↦ member_left x (f b) (flat_map f bs) (subst (λ y. IsMember x (f y)) (sym e) k) | inr r ↦ member_right x (f b) (flat_map f bs) (member_flat f x a bs r k) ]

either : {A : Type 0} (b : Bool) (y x : A) (xs : List A) → IsMember x xs → IsMember x (cond b (y ∷ xs) xs)
either true y x xs h = inr h
either false y x xs h = h

-- an edge stands among those to its target
pub member_places : (u j k : ℕ) (ts : List ℕ) (v : ℕ) → slice_get ts k ≡ Some v → IsMember (record { vertex = u; case = j + k }) (places_to u j ts v)
member_places u j k [] v e = absurd (let z : ⊥ = cc in z)
member_places u j zero (t ∷ ts) v e =
    let s : t ≡ v = cc in
    rw (eq-eqb t v s) (inl (ap (λ i. record { vertex = u; case = i }) (omega arith)))
member_places u j (suc k) (t ∷ ts) v e =
    let rest : IsMember (record { vertex = u; case = (j + 1) + k }) (places_to u (j + 1) ts v) = member_places u (j + 1) k ts v e in
    let here : IsMember (record { vertex = u; case = j + suc k }) (places_to u (j + 1) ts v) = subst (λ i. IsMember (record { vertex = u; case = i }) (places_to u (j + 1) ts v)) (omega arith) rest in
    either (t == v) (record { vertex = u; case = j }) (record { vertex = u; case = j + suc k }) (places_to u (j + 1) ts v) here

get_member : (ts : List ℕ) (v : ℕ) → IsMember v ts → (k : ℕ) × (slice_get ts k ≡ Some v)
get_member [] v h = absurd h
get_member (t ∷ ts) v h = elim h as (λ _. (k : ℕ) × (slice_get (t ∷ ts) k ≡ Some v)) [ inl e ↦ (0, ap Some e) | inr r ↦ (let g = get_member ts v r in (suc g.0, g.1)) ]

source_of : (p : Place) (places : List Place) → IsMember p places → IsSource p.vertex places
source_of p places m =
    let c = contains_from p places m in
    (c.0, c.1, λ d. ap (λ (x : Place). x.vertex) (get_or_default places c.0 d p c.1 ∙ c.2))

-- an edge by the targets is an edge by the rows
woven_leads : (targets : List (Vec ℕ Global)) (inward : List (Vec Place Global)) (order : List ℕ) (u v : ℕ) → Contains order u → items_at inward v ≡ places_from targets order v → Contains (items_at targets u) v → IsSource u (items_at inward v)
woven_leads targets inward order u v of here c =
    let row = items_at targets u in
    let k = get_member row v (member_from v row c.0 c.1 c.2) in
    let p : Place = record { vertex = u; case = 0 + k.0 } in
    source_of p (items_at inward v) (subst (IsMember p) (sym here) (member_flat (λ x. places_to x 0 (items_at targets x) v) p u order (member_from u order of.0 of.1 of.2) (member_places u 0 k.0 row v k.1)))

places_of : (n u k : ℕ) (ts : List ℕ) (v : ℕ) → u < n → All (λ p. p.vertex < n) (places_to u k ts v)
places_of n u k [] v l = All-nil (λ p. p.vertex < n)
places_of n u k (t ∷ ts) v l =
    elim (t == v) as (λ b. All (λ p. p.vertex < n) (cond b (record { vertex = u; case = k } ∷ places_to u (k + 1) ts v) (places_to u (k + 1) ts v))) [
      | true ↦ All-cons (λ p. p.vertex < n) (record { vertex = u; case = k }) (places_to u (k + 1) ts v) l (places_of n u (k + 1) ts v l)
      | false ↦ places_of n u (k + 1) ts v l
    ]

pub places_within : (targets : List (Vec ℕ Global)) (order : List ℕ) (v : ℕ) → All (λ p. p.vertex < length targets) (places_from targets order v)
places_within targets [] v = All-nil (λ p. p.vertex < length targets)
places_within targets (u ∷ us) v =
    let here : All (λ p. p.vertex < length targets) (places_to u 0 (items_at targets u) v) = elim (cases_lt u (length targets)) as (λ _. All (λ p. p.vertex < length targets) (places_to u 0 (items_at targets u) v)) [
      | inl l ↦ places_of (length targets) u 0 (items_at targets u) v l
      | inr g ↦ subst (λ ts. All (λ p. p.vertex < length targets) (places_to u 0 ts v)) (sym (items_at_past targets u (omega arith))) (All-nil (λ p. p.vertex < length targets))
    ] in
    All-append (λ p. p.vertex < length targets) (places_to u 0 (items_at targets u) v) (places_from targets us v) here (places_within targets us v)

pub woven_within : (targets : List (Vec ℕ Global)) (inward : List (Vec Place Global)) (order : List ℕ) (n : ℕ) → length targets ≡ n → ((v : ℕ) → v < n → items_at inward v ≡ places_from targets order v) → IsWithin inward n
woven_within targets inward order n e h = λ v l. subst (All (λ p. p.vertex < n)) (sym (h v l)) (subst (λ m. All (λ p. p.vertex < m) (places_from targets order v)) e (places_within targets order v))

pub woven_rooted : (g : Graph) (inward : List (Vec Place Global)) (keeps : List Bool) (order : List ℕ) → IsGraph g → ((v : ℕ) → v < length g.keys.items → Contains order v) → ((v : ℕ) → v < length g.keys.items → items_at inward v ≡ places_from g.targets.items order v) → IsWithin inward (length g.keys.items) → ((v : ℕ) → v < length g.keys.items → (is_set keeps v ≡ true) ↔ IsKept g.keys.items inward v) → IsRooted inward keeps (length g.keys.items)
woven_rooted g inward keeps order graph all here within kept = record {
  entry = (kept 0 (get_within g.keys.items 0 (record { address = graph.entry.0; tag = 0 }) graph.entry.1)).1 (inl refl);
  heads = λ v l h. (kept v l).1 (inr h);
  within = within;
  born = λ v a l. let b = graph.born v a l in (b.0, b.1, woven_leads g.targets.items inward order b.0 v (all b.0 (let before = b.1 in omega arith)) (here v l) b.2);
}

none_to : (u k : ℕ) (ts : List ℕ) (n : ℕ) → All (λ t. (0 < t) × (t < n)) ts → places_to u k ts 0 ≡ []
none_to u k [] n h = refl
none_to u k (t ∷ ts) n h =
    let positive = (All-head (λ t. (0 < t) × (t < n)) t ts h).0 in
    let rest = none_to u (k + 1) ts n (All-tail (λ t. (0 < t) × (t < n)) t ts h) in
    rw (ne_eqb t 0 (λ e. let z = e in omega arith)) rest

none_from : (targets : List (Vec ℕ Global)) (order : List ℕ) (n : ℕ) → ((u : ℕ) → All (λ t. (0 < t) × (t < n)) (items_at targets u)) → places_from targets order 0 ≡ []
none_from targets [] n h = refl
none_from targets (u ∷ us) n h = let here = none_to u 0 (items_at targets u) n (h u) in let rest = none_from targets us n h in rw here rest

-- no edge leads to the entry vertex
pub woven_alone : (g : Graph) (inward : List (Vec Place Global)) (order : List ℕ) → IsGraph g → ((v : ℕ) → v < length g.keys.items → items_at inward v ≡ places_from g.targets.items order v) → items_at inward 0 ≡ []
woven_alone g inward order graph here = here 0 (get_within g.keys.items 0 (record { address = graph.entry.0; tag = 0 }) graph.entry.1) ∙ none_from g.targets.items order (length g.keys.items) graph.within
