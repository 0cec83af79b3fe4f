-- Which vertices lie on a cycle, by the parts of a graph.
use Rattle.std.proofs.Common.{◌≡◌, ◌<◌, ◌≤◌, ℕ, zero, suc, List, slice_index, length, get_or, refl, sym, ap, ◌∙◌, subst, inl, inr, arith}
use Rattle.std.specs.List.{All}
use Rattle.std.specs.declared.vec.Vec.{Vec}
use Rattle.std.specs.declared.alloc.Global.{Global}
use Rattle.std.proofs.lemmas.List.{get_or_default}
use Rattle.lift_graph.specs.Rows.{items_at}
use Rattle.lift_graph.specs.Heads.{IsSource, Leads, Way, IsWithin, IsOnCycle}
use Rattle.lift_graph.specs.Components.{IsParted, part_of, root_of}
use Rattle.lift_graph.specs.declared.graph.Place.{Place}
use Rattle.lift_graph.specs.declared.components.Components.{Components}

way_joined : (inward : List (Vec Place Global)) (a b c m n : ℕ) → Way inward a b m → Way inward b c n → (k : ℕ) × Way inward a c k
way_joined inward a b c zero n x y = (n, subst (λ i. Way inward i c n) (sym x) y)
way_joined inward a b c (suc m) n x y = let r = way_joined inward x.0 b c m n x.2 y in (suc r.0, (x.0, x.1, r.1))

way_then : (inward : List (Vec Place Global)) (a u b k : ℕ) → Way inward a u k → Leads inward u b → Way inward a b (suc k)
way_then inward a u b zero w e = (b, subst (λ x. Leads inward x b) (sym w) e, refl)
way_then inward a u b (suc k) w e = (w.0, w.1, way_then inward w.0 u b k w.2 e)

way_last : (inward : List (Vec Place Global)) (a b n : ℕ) → Way inward a b (suc n) → (u : ℕ) × Way inward a u n × Leads inward u b
way_last inward a b zero w = (a, refl, subst (Leads inward a) w.2 w.1)
way_last inward a b (suc n) w = let r = way_last inward w.0 b n w.2 in (r.0, (w.0, w.1, r.1), r.2)

first : Place
first = record { vertex = 0; case = 0 }

-- what holds of each edge holds of an edge from a vertex
source_all : (P : ℕ → Type 0) (places : List Place) (u : ℕ) → All (λ p. P p.vertex) places → IsSource u places → P u
source_all P places u all s = subst P (s.2 first) (all s.0 first s.1)

pub source_at : (places : List Place) (at v : ℕ) (d : Place) → at < length places → (get_or places at d).vertex ≡ v → IsSource v places
source_at places at v d l e = (at, l, λ x. ap (λ (p : Place). p.vertex) (get_or_default places at x d l) ∙ e)

leads_within : (inward : List (Vec Place Global)) (n u v : ℕ) → IsWithin inward n → v < n → Leads inward u v → u < n
leads_within inward n u v within l s = source_all (λ x. x < n) (items_at inward v) u (within v l) s

-- each vertex leads to its root
to_root : (inward : List (Vec Place Global)) (n : ℕ) (c : Components) → IsParted inward n c → (bound v : ℕ) → v < n → slice_index c.up.items v ≤ bound → (k : ℕ) × Way inward v (root_of c v) k
to_root inward n c i zero v l h = elim (i.up v l) as (λ _. (k : ℕ) × Way inward v (root_of c v) k) [ inl e ↦ (0, e) | inr w ↦ absurd (let less = w.4 in omega arith) ]
to_root inward n c i (suc bound) v l h = elim (i.up v l) as (λ _. (k : ℕ) × Way inward v (root_of c v) k) [
  | inl e ↦ (0, e)
  | inr w ↦
      (let less = w.4 in
      let r = to_root inward n c i bound w.0 w.1 (omega arith) in
      (suc r.0, (w.0, w.2, subst (λ x. Way inward w.0 x r.0) (ap (slice_index c.root.items) w.3) r.1)))
]

-- and its root to it
from_root : (inward : List (Vec Place Global)) (n : ℕ) (c : Components) → IsParted inward n c → (bound v : ℕ) → v < n → slice_index c.down.items v ≤ bound → (k : ℕ) × Way inward (root_of c v) v k
from_root inward n c i zero v l h = elim (i.down v l) as (λ _. (k : ℕ) × Way inward (root_of c v) v k) [ inl e ↦ (0, sym e) | inr w ↦ absurd (let less = w.4 in omega arith) ]
from_root inward n c i (suc bound) v l h = elim (i.down v l) as (λ _. (k : ℕ) × Way inward (root_of c v) v k) [
  | inl e ↦ (0, sym e)
  | inr w ↦
      (let less = w.4 in
      let r = from_root inward n c i bound w.0 w.1 (omega arith) in
      (suc r.0, way_then inward (root_of c v) w.0 v r.0 (subst (λ x. Way inward x w.0 r.0) (ap (slice_index c.root.items) w.3) r.1) w.2))
]

-- an edge within a component lies on a cycle
pub part_back : (inward : List (Vec Place Global)) (n : ℕ) (c : Components) → IsWithin inward n → IsParted inward n c → (u v : ℕ) → v < n → Leads inward u v → part_of c u ≡ part_of c v → IsOnCycle inward v
part_back inward n c within i u v l e s =
    let a = to_root inward n c i (slice_index c.up.items v) v l (omega arith) in
    let b = from_root inward n c i (slice_index c.down.items u) u (leads_within inward n u v within l e) (omega arith) in
    let r = way_joined inward v (root_of c v) u a.0 b.0 a.1 (subst (λ x. Way inward x u b.0) (ap (slice_index c.root.items) s) b.1) in
    (r.0, way_then inward v u v r.0 r.1 e)

-- components fall along a way
way_falls : (inward : List (Vec Place Global)) (n : ℕ) (c : Components) → IsWithin inward n → IsParted inward n c → (k a b : ℕ) → b < n → Way inward a b k → (part_of c b ≤ part_of c a) × (a < n)
way_falls inward n c within i zero a b l w = let z = ap (part_of c) w in (omega arith, subst (λ x. x < n) (sym w) l)
way_falls inward n c within i (suc k) a b l w =
    let r = way_falls inward n c within i k w.0 b l w.2 in
    let low = r.0 in
    let next = source_all (λ x. part_of c w.0 ≤ part_of c x) (items_at inward w.0) a (i.falls w.0 r.1) w.1 in
    (omega arith, leads_within inward n a w.0 within r.1 w.1)

-- an edge from its component leads to a vertex on a cycle
pub part_last : (inward : List (Vec Place Global)) (n : ℕ) (c : Components) → IsWithin inward n → IsParted inward n c → (v : ℕ) → v < n → IsOnCycle inward v → (u : ℕ) × Leads inward u v × (part_of c u ≡ part_of c v)
part_last inward n c within i v l back =
    let r = way_last inward v v back.0 back.1 in
    let down = (way_falls inward n c within i back.0 v r.0 (leads_within inward n r.0 v within l r.2) r.1).0 in
    let edge = source_all (λ x. part_of c v ≤ part_of c x) (items_at inward v) r.0 (i.falls v l) r.2 in
    (r.0, r.2, omega arith)
