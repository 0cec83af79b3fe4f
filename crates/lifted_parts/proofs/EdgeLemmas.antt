-- The edges of a vertex stand for its cases: each leads to the case's address, to a vertex that is there, which the case entails.
use Rattle.std.proofs.Common.{◌≡◌, ◌<◌, ◌+◌, ℕ, suc, false, List, [], ◌∷◌, length, map, Some, Option, slice_get, refl, sym, ap, ◌∙◌, subst}
use Rattle.predicates.specs.Predicate.{Predicate}
use Rattle.predicates.specs.Entails.{Entails}
use Rattle.graph_data.specs.declared.graph.Function.{Function}
use Rattle.graph_data.specs.declared.graph.Vertex.{Vertex}
use Rattle.graph_runs.specs.World.{x86}
use Rattle.graph_rules.specs.Rules.{rules, case_of as rules_case}
use Rattle.simulation.specs.Graph.{vertex_at}
use Rattle.simulation.specs.Valid.{EdgeHolds, EdgesHold}
use Rattle.simulation.proofs.ListLemmas.{all_at, to_present}
use Rattle.step_rules.specs.Cases as step
use Rattle.lift_graph.specs.Graph.{address_at, tag_at}
use Rattle.lift_graph.specs.Links.{keys_after}
use Rattle.lift_graph.specs.Rows.{items_at}
use Rattle.lift_graph.specs.declared.graph.Key.{Key}
use Rattle.lift_graph.specs.declared.graph.Graph.{Graph}
use Rattle.lift_graph.proofs.IndexLemmas.{get_within}
use Rattle.lift_rounds.specs.Known.{Known, pred_at, cases_at, addresses}
use Rattle.lift_rounds.specs.declared.data.Case.{Case}
use Rattle.site_lines.specs.Subject.{Subject}
use Rattle.image_steps.specs.Meant.{case_of}
use Rattle.image_steps.specs.Laws.{entails_to, shaped_by}
use Rattle.lifted_parts.specs.Built.{IsBuilt, vertex_of, number_of, edge_to, known_or_nothing}
use Rattle.lifted_parts.specs.Rest.{IsAtRest, HasForm}
use Rattle.lifted_parts.proofs.FoundLemmas.{found, key_parts, get_mapped}
use Rattle.lifted_parts.proofs.CaseLemmas.{some_of}

-- each case entails what is known at the vertex of its place
abbrev pub AreEntailed : List (Known Predicate) → List step.Case → List ℕ → Type 0
AreEntailed known cs ts = (k : ℕ) (c : step.Case) (t : ℕ) → slice_get cs k ≡ Some c → slice_get ts k ≡ Some t → t < length known → Entails c.pred (known_or_nothing (pred_at known t))

module _ (s : Subject) (g : Graph) (known : List (Known Predicate)) (entry : ℕ) (f : Function) (rest : IsAtRest s g known entry) (built : IsBuilt s g known entry f) where
  edge_holds : (c : step.Case) (t : ℕ) (key : Key) → slice_get g.keys.items t ≡ Some key → key.address ≡ c.address → Entails c.pred (known_or_nothing (pred_at known t)) → EdgeHolds (x86 s.image) (rules s.image) f (rules_case c) (edge_to g t)
  edge_holds c t key h e entailed = record {
    address = (key_parts g.keys.items t key h).0 ∙ e;
    vertex = to_present (λ (v : Vertex). Entails c.pred v.pred) (vertex_at (x86 s.image) f (address_at g.keys.items t) (number_of g t)) (vertex_of g known t)
        ((found s g known entry f rest built).there t (get_within g.keys.items t key h)) entailed;
  }

  zip_edges : (cs : List step.Case) (ts : List ℕ) (tag n : ℕ) → map (slice_get g.keys.items) ts ≡ map Some (keys_after false tag n (addresses (map case_of cs))) → AreEntailed known cs ts → EdgesHold (x86 s.image) (rules s.image) f (map rules_case cs) (map (edge_to g) ts)
  zip_edges [] [] tag n e h = tt
  zip_edges [] (t ∷ ts) tag n e h = absurd (let z : ⊥ = cc in z)
  zip_edges (c ∷ cs) [] tag n e h = absurd (let z : ⊥ = cc in z)
  zip_edges (c ∷ cs) (t ∷ ts) tag n e h =
      let tail : map (slice_get g.keys.items) ts ≡ map Some (keys_after false tag (n + 1) (addresses (map case_of cs))) = ap tail_of e in
      let key = first_of_row e in (
        edge_holds c t key.0 key.1 key.2 (h 0 c t refl refl (subst (λ m. t < m) (sym rest.rows) (get_within g.keys.items t key.0 key.1))),
        zip_edges cs ts tag (n + 1) tail (λ k d u. h (suc k) d u),
      )
    where
      tail_of : {A : Type 0} → List A → List A
      tail_of [] = []
      tail_of (x ∷ xs) = xs

      first_of_row : {o : Option Key} {os qs : List (Option Key)} {key : Key} → (o ∷ os) ≡ (Some key ∷ qs) → (k : Key) × (o ≡ Some k) × (k.address ≡ key.address)
      first_of_row {o} {os} {qs} {key} e = (key, let w : o ≡ Some key = cc in w, refl)

  entailed : (v : ℕ) → v < length known → (cs : List step.Case) → map case_of cs ≡ cases_at known v → AreEntailed known cs (items_at g.targets.items v)
  entailed v l cs same k c t hc ht lt =
      let q = some_of (pred_at known t) (rest.settled.known t lt) in
      let at : slice_get (cases_at known v) k ≡ Some (case_of c) = subst (λ xs. slice_get xs k ≡ Some (case_of c)) same (get_mapped case_of cs k c hc) in
      let form = all_at (λ (x : Case Predicate). HasForm x.pred) (cases_at known v) k (case_of c) at (rest.formed.cases v) in
      let holds = rest.settled.follows v k t (case_of c) q.0 l lt at ht q.1 in
      let w = (entails_to c.pred q.0 holds (shaped_by c.pred (record { sixteen = form.formed.sixteen; forest = form.forest }))).1 in
      subst (λ o. Entails c.pred (known_or_nothing o)) (sym q.1) w

  -- the edges of a vertex stand for its cases
  pub edges_hold : (v : ℕ) → v < length g.keys.items → (cs : List step.Case) → map case_of cs ≡ cases_at known v → EdgesHold (x86 s.image) (rules s.image) f (map rules_case cs) (vertex_of g known v).out
  edges_hold v l cs same =
      let lk : v < length known = subst (λ n. v < n) (sym rest.rows) l in
      zip_edges cs (items_at g.targets.items v) (tag_at g.keys.items v) 0
      (subst (λ xs. map (slice_get g.keys.items) (items_at g.targets.items v) ≡ map Some (keys_after false (tag_at g.keys.items v) 0 (addresses xs))) (sym same) (rest.settled.led v))
      (entailed v lk cs same)
