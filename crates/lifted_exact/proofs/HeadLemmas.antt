-- A vertex that isn't a loop head of the function isn't kept in the graph.
use Rattle.std.proofs.Common.{◌≡◌, ◌<◌, ℕ, zero, suc, false, List, map, length, get_or, sym, ap, ◌∙◌, subst, inl, inr, arith}
use Rattle.std.specs.Prelude.{slice_index_or}
use Rattle.std.proofs.lemmas.Bool.{cases_Bool, cases_lt}
use Rattle.std.proofs.lemmas.List.{get_or_default}
use Rattle.predicates.specs.Predicate.{Predicate}
use Rattle.graph_data.specs.declared.graph.Function.{Function}
use Rattle.lift_graph.specs.Rows.{is_set, items_at}
use Rattle.lift_graph.specs.Edges.{places_from}
use Rattle.lift_graph.specs.Heads as graph
use Rattle.lift_graph.specs.Heads.{IsKept}
use Rattle.lift_graph.specs.Search.{IsMember}
use Rattle.lift_graph.specs.declared.graph.Place.{Place}
use Rattle.lift_graph.specs.declared.graph.Graph.{Graph}
use Rattle.lift_graph.proofs.MemberLemmas.{contains_from, member_from}
use Rattle.lift_graph.proofs.RowLemmas.{items_at_past}
use Rattle.lift_rounds.specs.Known.{Known}
use Rattle.site_lines.specs.Subject.{Subject}
use Rattle.lifted_parts.specs.Built.{IsBuilt, vertex_of, edge_to}
use Rattle.lifted_parts.specs.Edges.{Edge, edges_to, Leads, Way, IsLoopHead}
use Rattle.lifted_parts.specs.Rest.{IsAtRest}
use Rattle.lifted_parts.specs.Found.{AreFound}
use Rattle.lifted_exact.proofs.CaseLemmas.{long_map}
use Rattle.lifted_exact.proofs.EdgeLemmas.{edge_for, edges_same}
use Rattle.lifted_parts.proofs.FoundLemmas.{key_parts}
use Rattle.lifted_exact.proofs.PlaceLemmas.{place_from, member_map}

module _ (s : Subject) (g : Graph) (known : List (Known Predicate)) (entry : ℕ) (f : Function) (rest : IsAtRest s g known entry) (built : IsBuilt s g known entry f) (found : AreFound s.image g known f) where
  -- a vertex to which edges lead is one
  led_below : (a c : ℕ) → graph.Leads g.inward.items a c → c < length g.keys.items
  led_below a c h = elim (cases_lt c (length g.keys.items)) as (λ _. c < length g.keys.items) [
    | inl l ↦ l
    | inr over ↦ (
        let square = rest.graph.listed.square.inward in
        let none = ap (λ (ps : List Place). length ps) (items_at_past g.inward.items c (omega (arith, over, square))) in
        let some = h.1 in
        absurd (omega (arith, none, some)))
  ]

  -- an edge of the graph is one of the function
  led_spot : (a c : ℕ) → a < length g.keys.items → graph.Leads g.inward.items a c → Leads s.image f (edge_to g a) (edge_to g c)
  led_spot a c l h =
      let places = places_from g.targets.items rest.order c in
      let below = led_below a c h in
      let woven = rest.woven.inward c below in
      let k = h.0 in
      let first : Place = record { vertex = 0; case = 0 } in
      let inside : k < length places = subst (λ (ps : List Place). k < length ps) woven h.1 in
      let p = get_or places k first in
      let m : IsMember p places = member_from p places k inside (get_or_default places k p first inside) in
      let comes = (place_from g.targets.items rest.order c p m).1 in
      let same : p.vertex ≡ a = subst (λ (ps : List Place). (slice_index_or ps k first).vertex ≡ a) woven (h.2 first) in
      let target : IsMember c (items_at g.targets.items a) = subst (λ u. IsMember c (items_at g.targets.items u)) same comes.leads in
      (vertex_of g known a, found.there a l, contains_from (edge_to g c) (map (edge_to g) (items_at g.targets.items a)) (member_map (edge_to g) c (items_at g.targets.items a) target))

  -- so is a way
  way_spot : (n a b : ℕ) → a < length g.keys.items → graph.Way g.inward.items a b n → Way s.image f (edge_to g a) (edge_to g b) n
  way_spot zero a b l h = ap (edge_to g) h
  way_spot (suc n) a b l h = (edge_to g h.0, led_spot a h.0 l h.1, way_spot n h.0 b (led_below a h.0 h.1) h.2)

  -- as many edges lead to the vertex
  edges_long : (v : ℕ) → v < length g.keys.items → length (edges_to f (edge_to g v)) ≡ length (items_at g.inward.items v)
  edges_long v l =
      let places = places_from g.targets.items rest.order v in
      ap (λ (es : List Edge). length es) (edges_same s g known rest.order entry f rest.graph rest.woven built v l)
      ∙ long_map (edge_for s g known (edge_to g v)) places
      ∙ ap (λ (ps : List Place). length ps) (sym (rest.woven.inward v l))

  -- a vertex that is kept is a loop head
  kept_head : (v : ℕ) → v < length g.keys.items → IsKept g.keys.items g.inward.items v → IsLoopHead s.image f (edge_to g v)
  kept_head v l h = elim h as (λ _. IsLoopHead s.image f (edge_to g v)) [
    | inl e ↦ inr (e ∙ (key_parts g.keys.items 0 (record { address = entry; tag = 0 }) rest.begins).0 ∙ sym built.entry_is)
    | inr both ↦ inl (
      let two = both.0 in
          let long = edges_long v l in
          omega (arith, two, long),
      (both.1.0, way_spot (suc both.1.0) v v l both.1.1),
    )
  ]

  -- and another isn't
  pub not_kept : (v : ℕ) → v < length g.keys.items → (IsLoopHead s.image f (edge_to g v) → ⊥) → is_set g.keeps.items v ≡ false
  not_kept v l no_head = elim (cases_Bool (is_set g.keeps.items v)) as (λ _. is_set g.keeps.items v ≡ false) [
    | inl e ↦ absurd (no_head (kept_head v l ((rest.kept v l).0 e)))
    | inr e ↦ e
  ]
