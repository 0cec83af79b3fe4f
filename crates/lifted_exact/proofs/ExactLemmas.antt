-- A function that was lifted is exact.
use Rattle.std.proofs.Common.{◌≡◌, ◌<◌, ℕ, List, length, Some, sym, ap, ap₂, ◌∙◌, subst, arith}
use Rattle.predicates.specs.Predicate.{Predicate}
use Rattle.graph_data.specs.declared.graph.Vertex.{Vertex}
use Rattle.graph_data.specs.declared.graph.Function.{Function}
use Rattle.lift_graph.specs.Edges.{places_from}
use Rattle.lift_graph.specs.declared.graph.Graph.{Graph}
use Rattle.lift_rounds.specs.Known.{Known, pred_at, incoming as known_incoming}
use Rattle.site_lines.specs.Subject.{Subject}
use Rattle.lifted_parts.specs.Built.{IsBuilt, known_or_nothing, vertex_of, edge_to}
use Rattle.lifted_parts.specs.Edges.{Spot, IsLoopHead}
use Rattle.lifted_parts.specs.Exact.{incoming, merge_of}
use Rattle.lifted_parts.specs.Rest.{IsAtRest}
use Rattle.lifted_parts.proofs.FoundLemmas.{found}
use Rattle.lifted_exact.specs.Laws.{ExactLaw}
use Rattle.lifted_exact.proofs.CaseLemmas.{known_some, incoming_same, incoming_formed}
use Rattle.lifted_exact.proofs.HeadLemmas.{not_kept}
use Rattle.lifted_exact.proofs.MergeLemmas.{form_shaped, gathered_merges}

module _ (s : Subject) (g : Graph) (known : List (Known Predicate)) (entry : ℕ) (f : Function) (rest : IsAtRest s g known entry) (built : IsBuilt s g known entry f) where
  exact_at : (u : ℕ) → u < length g.keys.items → (IsLoopHead s.image f (edge_to g u) → ⊥) → merge_of (incoming s.image f (edge_to g u)) ≡ Some (vertex_of g known u).pred
  exact_at u l no_head =
      let cs = known_incoming known (places_from g.targets.items rest.order u) in
      let rows = rest.rows in
      let of = known_some (pred_at known u) (rest.settled.known u (omega (arith, rows, l))) in
      ap merge_of (incoming_same s g known entry f rest built u l)
      ∙ sym (gathered_merges s cs (λ c m. form_shaped c (incoming_formed s g known entry f rest built u c m)))
      ∙ sym (rest.settled.exact u (omega (arith, rows, l)) (not_kept s g known entry f rest built (found s g known entry f rest built) u l no_head))
      ∙ of.1
      ∙ ap (λ o. Some (known_or_nothing o)) (sym of.1)

pub exact : ExactLaw
exact s g known entry f rest built spot v at not_entry no_head =
    let stands = (found s g known entry f rest built).only spot.0 spot.1 v at in
    let u = stands.vertex in
    let same : edge_to g u ≡ spot = ap₂ (λ a n. (a, n)) stands.address_is stands.number_is in
    subst (λ (x : Spot). merge_of (incoming s.image f x) ≡ Some v.pred) same
    (exact_at s g known entry f rest built u stands.below (λ h. no_head (subst (IsLoopHead s.image f) same h))
    ∙ ap (λ (x : Vertex). Some x.pred) stands.same)
