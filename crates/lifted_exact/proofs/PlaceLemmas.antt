-- Where the edges to a vertex come from.
use Rattle.std.proofs.Common.{◌≡◌, ◌<◌, ◌+◌, ◌==◌, ℕ, zero, suc, true, false, cond, List, [], ◌∷◌, map, length, Option, Some, None, slice_get, refl, sym, ap, ◌∙◌, subst, inl, inr, arith, eqb-true}
use Rattle.std.specs.List.{All, Contains, filter_map, cons_option}
use Rattle.std.specs.declared.vec.Vec.{Vec}
use Rattle.std.specs.declared.alloc.Global.{Global}
use Rattle.lift_graph.specs.Rows.{items_at}
use Rattle.lift_graph.specs.Edges.{places_to, places_from}
use Rattle.lift_graph.specs.Search.{IsMember}
use Rattle.lift_graph.specs.declared.graph.Place.{Place}
use Rattle.lift_graph.proofs.MemberLemmas.{contains_from}
use Rattle.lifted_exact.proofs.RankLemmas.{member_of_flat}

-- an edge comes from a vertex with its target at its number
pub record Comes (targets : List ℕ) (u k v : ℕ) (p : Place) : Type 0 where
  pub from : p.vertex ≡ u
  pub below : p.case < k + length targets
  pub leads : IsMember v targets

later : (t : ℕ) (ts : List ℕ) (u k v : ℕ) (p : Place) → Comes ts u (k + 1) v p → Comes (t ∷ ts) u k v p
later t ts u k v p c = record { from = c.from; below = (let b = c.below in omega (arith, b)); leads = inr c.leads }

pub place_comes : (u k : ℕ) (ts : List ℕ) (v : ℕ) (p : Place) → IsMember p (places_to u k ts v) → Comes ts u k v p
place_comes u k [] v p h = absurd h
place_comes u k (t ∷ ts) v p h =
    let more = places_to u (k + 1) ts v in
    let first : Place = record { vertex = u; case = k } in
    elim (t == v) as (λ b. (t == v) ≡ b → IsMember p (cond b (first ∷ more) more) → Comes (t ∷ ts) u k v p) [
      | true ↦ λ e m. elim m as (λ _. Comes (t ∷ ts) u k v p) [
        | inl same ↦ record {
          from = ap (λ (q : Place). q.vertex) (sym same);
          below = (let s = ap (λ (q : Place). q.case) same in omega (arith, s));
          leads = inl (eqb-true t v e);
        }
        | inr i ↦ later t ts u k v p (place_comes u (k + 1) ts v p i)
      ]
      | false ↦ λ e m. later t ts u k v p (place_comes u (k + 1) ts v p m)
    ] refl h

-- an edge to a vertex comes from one of the vertices in order
pub place_from : (targets : List (Vec ℕ Global)) (order : List ℕ) (v : ℕ) (p : Place) → IsMember p (places_from targets order v) → Contains order p.vertex × Comes (items_at targets p.vertex) p.vertex 0 v p
place_from targets order v p h =
    let of = member_of_flat (λ u. places_to u 0 (items_at targets u) v) p order h in
    let c = place_comes of.0 0 (items_at targets of.0) v p of.2 in
    (contains_from p.vertex order (subst (λ u. IsMember u order) (sym c.from) of.1), subst (λ u. Comes (items_at targets u) u 0 v p) (sym c.from) c)

-- the same is made of each item
pub filter_map_same : {X Y Z : Type 0} (f : Y → Option Z) (k : X → Option Z) (h : X → Y) (xs : List X) → ((x : X) → IsMember x xs → f (h x) ≡ k x) → filter_map f (map h xs) ≡ filter_map k xs
filter_map_same f k h [] e = refl
filter_map_same {Z} f k h (x ∷ xs) e =
    ap (λ o. cons_option o (filter_map f (map h xs))) (e x (inl refl))
    ∙ ap (cons_option (k x)) (filter_map_same f k h xs (λ y m. e y (inr m)))

from_option : {X Y : Type 0} (k : X → Option Y) (y : Y) (x : X) (xs : List X) (ys : List Y) (o : Option Y) → k x ≡ o → (IsMember y ys → (z : X) × IsMember z xs × (k z ≡ Some y)) → IsMember y (cons_option o ys) → (z : X) × IsMember z (x ∷ xs) × (k z ≡ Some y)
from_option k y x xs ys None e more h = let m = more h in (m.0, inr m.1, m.2)
from_option {X} k y x xs ys (Some w) e more h = elim h as (λ _. (z : X) × IsMember z (x ∷ xs) × (k z ≡ Some y)) [
  | inl s ↦ (x, inl refl, e ∙ ap Some s)
  | inr i ↦ (let m = more i in (m.0, inr m.1, m.2))
]

-- what was made of a list was made of one of its items
pub member_made : {X Y : Type 0} (k : X → Option Y) (y : Y) (xs : List X) → IsMember y (filter_map k xs) → (x : X) × IsMember x xs × (k x ≡ Some y)
member_made k y [] h = absurd h
member_made k y (x ∷ xs) h = from_option k y x xs (filter_map k xs) (k x) refl (member_made k y xs) h

-- what holds of all items holds of the one at a place
pub all_got : {X : Type 0} (P : X → Type 0) (xs : List X) (k : ℕ) (x : X) → All P xs → slice_get xs k ≡ Some x → P x
all_got P [] k x h e = absurd (let f : ⊥ = cc in f)
all_got P (y ∷ ys) zero x h e = let s : y ≡ x = cc in subst P s (h 0 y (omega arith))
all_got P (y ∷ ys) (suc k) x h e = all_got P ys k x (λ j d l. h (suc j) d (omega (arith, l))) e

pub member_map : {X Y : Type 0} (h : X → Y) (x : X) (xs : List X) → IsMember x xs → IsMember (h x) (map h xs)
member_map h x [] m = absurd m
member_map h x (y ∷ ys) m = elim m as (λ _. IsMember (h x) (map h (y ∷ ys))) [ inl e ↦ inl (ap h e) | inr i ↦ inr (member_map h x ys i) ]
