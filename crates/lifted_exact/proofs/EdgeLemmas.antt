-- The edges of the function to a vertex are those of the graph, in the same order.
use Rattle.std.proofs.Common.{◌≡◌, ◌≢◌, ◌<◌, ◌+◌, ◌==◌, ◌&&◌, ℕ, Bool, true, false, List, [], ◌∷◌, map, length, refl, sym, ap, ◌∙◌, subst, inl, inr, eqb-true, eq-eqb}
use Rattle.std.specs.Prelude.{filter}
use Rattle.std.specs.List.{All, flat_map}
use Rattle.std.proofs.lemmas.Bool.{and_parts, cases_Bool, cases_eq, ne_eqb}
use Rattle.std.proofs.lemmas.List.Elements.{All-head, All-tail, All-weaker}
use Rattle.predicates.specs.Predicate.{Predicate}
use Rattle.graph_data.specs.declared.graph.Vertex.{Vertex}
use Rattle.graph_data.specs.declared.graph.Site.{Site}
use Rattle.graph_data.specs.declared.graph.Function.{Function}
use Rattle.lift_graph.specs.Rows.{items_at}
use Rattle.lift_graph.specs.Graph.{IsGraph, IsListed, address_at}
use Rattle.lift_graph.specs.Edges.{places_to, places_from, IsWoven}
use Rattle.lift_graph.specs.declared.graph.Place.{Place}
use Rattle.lift_graph.specs.declared.graph.Graph.{Graph}
use Rattle.lift_rounds.specs.Known.{Known}
use Rattle.site_lines.specs.Subject.{Subject}
use Rattle.lifted_parts.specs.Built.{IsBuilt, number_of, edge_to, vertex_of, here, site_of}
use Rattle.lifted_parts.specs.Edges.{Spot, Edge, edges_from, edges_to}
use Rattle.lifted_exact.proofs.FlatLemmas.{filter_flat, map_flat, flat_flat, flat_of_map, flat_same}
use Rattle.lifted_exact.proofs.KeyLemmas.{same_spot, site_below}
use Rattle.lifted_exact.proofs.OrderLemmas.{order_is}

-- whether an edge leads to a vertex
abbrev pub is_to : Spot → Edge → Bool
is_to spot e = (e.target.0 == spot.0) && (e.target.1 == spot.1)

-- an edge of the graph as the function has it
abbrev pub edge_for : Subject → Graph → List (Known Predicate) → Spot → Place → Edge
edge_for s g known spot p = record {
  site = site_of s g known (address_at g.keys.items p.vertex);
  vertex = vertex_of g known p.vertex;
  case = p.case;
  target = spot;
}

both_same : (a b : ℕ) → ((a == a) && (b == b)) ≡ true
both_same a b = rw (eq-eqb a a refl, eq-eqb b b refl) refl

-- whether an edge leads to the vertex is whether its target is the vertex
apart : (g : Graph) → IsListed g → (t v : ℕ) → t < length g.keys.items → v < length g.keys.items → t ≢ v → ((address_at g.keys.items t == address_at g.keys.items v) && (number_of g t == number_of g v)) ≡ false
apart g i t v l m n =
    let a = address_at g.keys.items t == address_at g.keys.items v in
    let b = number_of g t == number_of g v in
    elim (cases_Bool (a && b)) as (λ _. (a && b) ≡ false) [
      | inl e ↦ (let p = and_parts a b e in absurd (n (same_spot g i t v l m (eqb-true (address_at g.keys.items t) (address_at g.keys.items v) p.0) (eqb-true (number_of g t) (number_of g v) p.1))))
      | inr f ↦ f
    ]

-- the edges of one vertex
row_same : (s : Subject) (g : Graph) (known : List (Known Predicate)) → IsListed g → (u v k : ℕ) (ts : List ℕ) → v < length g.keys.items → All (λ t. t < length g.keys.items) ts
    → filter (is_to (edge_to g v)) (edges_from (site_of s g known (address_at g.keys.items u)) (vertex_of g known u) k (map (edge_to g) ts)) ≡ map (edge_for s g known (edge_to g v)) (places_to u k ts v)
row_same s g known i u v k [] l all = refl
row_same s g known i u v k (t ∷ ts) l all =
    let x = site_of s g known (address_at g.keys.items u) in
    let y = vertex_of g known u in
    let lt = All-head (λ t. t < length g.keys.items) t ts all in
    let rest = All-tail (λ t. t < length g.keys.items) t ts all in
    elim (cases_eq t v) as (λ _. filter (is_to (edge_to g v)) (edges_from x y k (map (edge_to g) (t ∷ ts))) ≡ map (edge_for s g known (edge_to g v)) (places_to u k (t ∷ ts) v)) [
      | inl e ↦ subst (λ w. filter (is_to (edge_to g w)) (edges_from x y k (map (edge_to g) (t ∷ ts))) ≡ map (edge_for s g known (edge_to g w)) (places_to u k (t ∷ ts) w)) e
          (let more = row_same s g known i u t (k + 1) ts lt rest in
          rw (both_same (address_at g.keys.items t) (number_of g t), eq-eqb t t refl)
          (ap (λ es. edge_for s g known (edge_to g t) (record { vertex = u; case = k }) ∷ es) more))
      | inr n ↦ (let more = row_same s g known i u v (k + 1) ts l rest in rw (apart g i t v lt l n, ne_eqb t v n) more)
    ]

-- the edges of the vertices at an address
site_same : (s : Subject) (g : Graph) (known : List (Known Predicate)) → IsGraph g → (v a : ℕ) → v < length g.keys.items
    → filter (is_to (edge_to g v)) (flat_map (λ y. edges_from (site_of s g known a) y 0 y.out) (map (vertex_of g known) (here g a)))
    ≡ flat_map (λ u. map (edge_for s g known (edge_to g v)) (places_to u 0 (items_at g.targets.items u) v)) (here g a)
site_same s g known graph v a l =
    let x = site_of s g known a in
    let keys = g.keys.items in
    ap (filter (is_to (edge_to g v))) (flat_of_map (λ (y : Vertex). edges_from x y 0 y.out) (vertex_of g known) (here g a))
    ∙ filter_flat (is_to (edge_to g v)) (λ u. edges_from x (vertex_of g known u) 0 (map (edge_to g) (items_at g.targets.items u))) (here g a)
    ∙ flat_same (λ u. filter (is_to (edge_to g v)) (edges_from x (vertex_of g known u) 0 (map (edge_to g) (items_at g.targets.items u)))) (λ u. map (edge_for s g known (edge_to g v)) (places_to u 0 (items_at g.targets.items u) v)) (here g a)
    (λ u m.
    let at = (site_below g.index keys graph.listed.index a g.tags u m).1 in
    let within = All-weaker (λ t. (0 < t) × (t < length keys)) (λ t. t < length keys) (λ t b. b.1) (items_at g.targets.items u) (graph.within u) in
    subst (λ b. filter (is_to (edge_to g v)) (edges_from (site_of s g known b) (vertex_of g known u) 0 (map (edge_to g) (items_at g.targets.items u))) ≡ map (edge_for s g known (edge_to g v)) (places_to u 0 (items_at g.targets.items u) v)) at
    (row_same s g known graph.listed u v 0 (items_at g.targets.items u) l within))

-- the edges of all
pub edges_same : (s : Subject) (g : Graph) (known : List (Known Predicate)) (order : List ℕ) (entry : ℕ) (f : Function) → IsGraph g → IsWoven g order → IsBuilt s g known entry f → (v : ℕ) → v < length g.keys.items
    → edges_to f (edge_to g v) ≡ map (edge_for s g known (edge_to g v)) (places_from g.targets.items order v)
edges_same s g known order entry f graph woven built v l =
    let to = is_to (edge_to g v) in
    let of_site : Site → List Edge = λ x. flat_map (λ y. edges_from x y 0 y.out) x.vertices in
    let of_vertex : ℕ → List Edge = λ u. map (edge_for s g known (edge_to g v)) (places_to u 0 (items_at g.targets.items u) v) in
    ap (λ xs. filter to (flat_map of_site xs)) built.sites
    ∙ ap (filter to) (flat_of_map of_site (site_of s g known) built.addresses)
    ∙ filter_flat to (λ a. of_site (site_of s g known a)) built.addresses
    ∙ flat_same (λ a. filter to (of_site (site_of s g known a))) (λ a. flat_map of_vertex (here g a)) built.addresses (λ a m. site_same s g known graph v a l)
    ∙ sym (flat_flat of_vertex (here g) built.addresses)
    ∙ ap (flat_map of_vertex) (sym (order_is g order built.addresses graph.listed woven built.all))
    ∙ sym (map_flat (edge_for s g known (edge_to g v)) (λ u. places_to u 0 (items_at g.targets.items u) v) order)
