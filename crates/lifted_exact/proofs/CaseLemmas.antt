-- The cases that come to a vertex of the function are those that are known.
use Rattle.std.proofs.Common.{◌≡◌, ◌<◌, ◌+◌, ℕ, zero, suc, Bool, true, false, List, [], ◌∷◌, map, length, Option, Some, None, IsSome, slice_get, refl, sym, ap, ◌∙◌, subst, arith}
use Rattle.std.specs.Prelude.{if◌then◌else◌}
use Rattle.std.specs.List.{filter_map}
use Rattle.std.specs.Option.{option_and_then, option_map}
use Rattle.std.proofs.lemmas.List.Elements.{All-contains}
use Rattle.elf_image.specs.declared.image.Image.{Image}
use Rattle.predicates.specs.Predicate.{Predicate}
use Rattle.predicates.specs.Kinds.{has_edges}
use Rattle.graph_data.specs.declared.graph.Function.{Function}
use Rattle.x86_instr.specs.declared.instr.Instr.{Instr}
use Rattle.instr_at.specs.At.{instr_at}
use Rattle.step_rules.specs.View.{View}
use Rattle.step_rules.specs.Cases as step
use Rattle.step_rules.specs.Cases.{cases}
use Rattle.site_lines.specs.declared.lines.Lines.{Lines}
use Rattle.site_lines.specs.Lines.{view_with, lines_at, cases_here}
use Rattle.site_lines.specs.Subject.{Subject, frame_below}
use Rattle.lift_graph.specs.Rows.{items_at}
use Rattle.lift_graph.specs.Graph.{address_at, tag_at}
use Rattle.lift_graph.specs.Links.{keys_after}
use Rattle.lift_graph.specs.Sites.{site_at}
use Rattle.lift_graph.specs.Edges.{places_from}
use Rattle.lift_graph.specs.Search.{IsMember}
use Rattle.lift_graph.specs.declared.graph.Key.{Key}
use Rattle.lift_graph.specs.declared.graph.Place.{Place}
use Rattle.lift_graph.specs.declared.graph.Graph.{Graph}
use Rattle.lift_rounds.specs.Known.{Known, pred_at, cases_at, case_at, pred_of, addresses, cases_from, incoming as known_incoming}
use Rattle.lift_rounds.specs.Settled.{IsLedAt}
use Rattle.lift_rounds.specs.declared.data.Case.{Case}
use Rattle.image_steps.specs.Meant.{case_of as round_case, meaning_of}
use Rattle.lifted_parts.specs.Built.{IsBuilt, known_or_nothing, preds_here}
use Rattle.lifted_parts.specs.Edges.{Spot}
use Rattle.lifted_parts.specs.Exact.{case_of, incoming}
use Rattle.lifted_parts.specs.Rest.{IsAtRest, HasForm}
use Rattle.lifted_exact.proofs.EdgeLemmas.{edge_for, edges_same}
use Rattle.lifted_exact.proofs.OrderLemmas.{order_below}
use Rattle.lifted_exact.proofs.PlaceLemmas.{place_from, filter_map_same, member_made, all_got}
use Rattle.lifted_parts.specs.Built.{edge_to}

pub known_some : {X : Type 0} (o : Option X) → IsSome o → (x : X) × (o ≡ Some x)
known_some None h = absurd (let f : ⊥ = cc in f)
known_some (Some x) h = (x, refl)

-- ---- as many edges as cases

pub long_map : {X Y : Type 0} (f : X → Y) (xs : List X) → length (map f xs) ≡ length xs
long_map f [] = refl
long_map f (x ∷ xs) = let h = long_map f xs in omega (arith, h)

long_keys : (b : Bool) (t k : ℕ) (ns : List ℕ) → length (keys_after b t k ns) ≡ length ns
long_keys b t k [] = refl
long_keys b t k (n ∷ ns) = let h = long_keys b t (k + 1) ns in omega (arith, h)

pub row_long : (s : Subject) (g : Graph) (known : List (Known Predicate)) (u : ℕ) → IsLedAt (meaning_of s) g known u → length (items_at g.targets.items u) ≡ length (cases_at known u)
row_long s g known u led =
    let keys = keys_after false (tag_at g.keys.items u) 0 (addresses (cases_at known u)) in
    let some : Key → Option Key = λ k. Some k in
    sym (long_map (slice_get g.keys.items) (items_at g.targets.items u)) ∙ ap (λ (xs : List (Option Key)). length xs) led ∙ long_map some keys
    ∙ long_keys false (tag_at g.keys.items u) 0 (addresses (cases_at known u)) ∙ long_map (λ (c : Case Predicate). c.address) (cases_at known u)

-- ---- the case of an edge

abbrev case_by : View → Option Instr → Predicate → ℕ → Option Predicate
case_by view i p k = option_map (λ (c : step.Case). c.pred) (option_and_then (λ (cs : List step.Case). slice_get cs k) (option_and_then (λ i. cases view i p) i))

got_case : (xs : List step.Case) (k : ℕ) → option_map (λ (c : step.Case). c.pred) (slice_get xs k) ≡ pred_of (slice_get (map round_case xs) k)
got_case [] k = refl
got_case (x ∷ xs) zero = refl
got_case (x ∷ xs) (suc k) = got_case xs k

none_made : (made : List (Case Predicate)) (k : ℕ) → Some [] ≡ Some made → k < length made → ⊥
none_made made k e l = let s : [] ≡ made = cc in let n : 0 ≡ length made = ap (λ (xs : List (Case Predicate)). length xs) s in omega (arith, n, l)

got_cases : (cs : Option (List step.Case)) (k : ℕ) (made : List (Case Predicate)) → option_map (map round_case) cs ≡ Some made → option_map (λ (c : step.Case). c.pred) (option_and_then (λ (xs : List step.Case). slice_get xs k) cs) ≡ pred_of (slice_get made k)
got_cases None k made h = absurd (let f : ⊥ = cc in f)
got_cases (Some xs) k made h = let s : map round_case xs ≡ made = cc in got_case xs k ∙ ap (λ (ys : List (Case Predicate)). pred_of (slice_get ys k)) s

edge_case : (image : Image) (lines : Lines) (i : Option Instr) (p : Predicate) (k : ℕ) (made : List (Case Predicate)) → option_map (map round_case) (cases_here image lines i p) ≡ Some made → k < length made → case_by (view_with image lines) i p k ≡ pred_of (slice_get made k)
edge_case image lines None p k made h l = absurd (none_made made k h l)
edge_case image lines (Some i) p k made h l =
    let view = view_with image lines in
    elim (has_edges lines.kind) as (λ b. option_map (map round_case) (if b then cases view i p else Some []) ≡ Some made → case_by view (Some i) p k ≡ pred_of (slice_get made k)) [
      | true ↦ λ e. got_cases (cases view i p) k made e
      | false ↦ λ e. absurd (none_made made k e l)
    ] h

module _ (s : Subject) (g : Graph) (known : List (Known Predicate)) (entry : ℕ) (f : Function) (rest : IsAtRest s g known entry) (built : IsBuilt s g known entry f) where
  -- the cases of a vertex, by its predicate
  pub cases_of : (u : ℕ) → u < length g.keys.items → (p : Predicate) → pred_at known u ≡ Some p
      → option_map (map round_case) (cases_here s.image (lines_at s (address_at g.keys.items u) (preds_here g known (address_at g.keys.items u))) (instr_at s.image (address_at g.keys.items u)) p) ≡ Some (cases_at known u)
  cases_of u l p e =
      let a = address_at g.keys.items u in
      let rows = rest.rows in
      subst (λ o. cases_from (meaning_of s) a (map (pred_at known) (site_at g u)) o ≡ Some (cases_at known u)) e (rest.settled.cases u (omega (arith, rows, l)))

  case_same : (spot : Spot) (p : Place) → p.vertex < length g.keys.items → p.case < length (items_at g.targets.items p.vertex) → case_of s.image f (edge_for s g known spot p) ≡ case_at known p
  case_same spot p l k =
      let u = p.vertex in
      let a = address_at g.keys.items u in
      let rows = rest.rows in
      let of = known_some (pred_at known u) (rest.settled.known u (omega (arith, rows, l))) in
      let lines = lines_at s a (preds_here g known a) in
      let i = instr_at s.image a in
      let long = row_long s g known u (rest.settled.led u) in
      let view : ℕ → ℕ → View = λ below above. record {
        known = record { image = s.image; below = below; above = above; seps = lines.seps };
        fork = None;
        keeps = lines.keeps;
      } in
      ap (λ o. case_by (view f.below f.above) i (known_or_nothing o) p.case) of.1
      ∙ ap (λ b. case_by (view b f.above) i of.0 p.case) built.below
      ∙ ap (λ b. case_by (view frame_below b) i of.0 p.case) built.above
      ∙ edge_case s.image lines i of.0 p.case (cases_at known u) (cases_of u l of.0 of.1) (omega (arith, k, long))

  place_below : (v : ℕ) (p : Place) → IsMember p (places_from g.targets.items rest.order v) → (p.vertex < length g.keys.items) × (p.case < length (items_at g.targets.items p.vertex))
  place_below v p m =
      let c = place_from g.targets.items rest.order v p m in
      let b = c.1.below in
      (All-contains (λ u. u < length g.keys.items) rest.order p.vertex (order_below (length g.keys.items) rest.order rest.woven.written.once) c.0, omega (arith, b))

  -- the cases that come to a vertex
  pub incoming_same : (v : ℕ) → v < length g.keys.items → incoming s.image f (edge_to g v) ≡ known_incoming known (places_from g.targets.items rest.order v)
  incoming_same v l =
      ap (filter_map (case_of s.image f)) (edges_same s g known rest.order entry f rest.graph rest.woven built v l)
      ∙ filter_map_same (case_of s.image f) (case_at known) (edge_for s g known (edge_to g v)) (places_from g.targets.items rest.order v)
      (λ p m. let b = place_below v p m in case_same (edge_to g v) p b.0 b.1)

  case_formed : (o : Option (Case Predicate)) (c : Predicate) → ((x : Case Predicate) → o ≡ Some x → HasForm x.pred) → pred_of o ≡ Some c → HasForm c
  case_formed None c h e = absurd (let z : ⊥ = cc in z)
  case_formed (Some x) c h e = let same : x.pred ≡ c = cc in subst HasForm same (h x refl)

  -- each of them has the form
  pub incoming_formed : (v : ℕ) (c : Predicate) → IsMember c (known_incoming known (places_from g.targets.items rest.order v)) → HasForm c
  incoming_formed v c m =
      let of = member_made (case_at known) c (places_from g.targets.items rest.order v) m in
      let cs = cases_at known of.0.vertex in
      case_formed (slice_get cs of.0.case) c (λ x e. all_got (λ (y : Case Predicate). HasForm y.pred) cs of.0.case x (rest.formed.cases of.0.vertex) e) of.2
