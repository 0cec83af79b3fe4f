-- The lines of a vertex, one after another.
use Rattle.std.proofs.Common.{◌≡◌, ℕ, suc, ◌<◌, ◌≤◌, Bool, true, false, ◌&&◌, not, List, [], ◌∷◌, ◌++◌, length, map, Option, Some, None, refl, sym, ap, ◌∙◌, arith}
use Rattle.std.specs.Prelude.{◌==◌, nat_lt, nat_le, if◌then◌else◌}
use Rattle.std.specs.declared.result.Result.TheVariants.{Ok}
use Rattle.std.proofs.lemmas.Bool.{and_parts, and_from, lt-ltb, leb-true, eqb-true, ne_eqb}
use Rattle.std.proofs.lemmas.List.Concat.{flat_map_single}
use Rattle.sym_terms.specs.Plain.{PlainSum}
use Rattle.predicates.specs.declared.bound.FlagFact.{FlagFact}
use Rattle.predicates.specs.declared.bound.Values.{Values}
use Rattle.predicates.specs.declared.bound.Values.TheVariants.{Range, OneOf}
use Rattle.predicates.specs.declared.bound.Bound.{Bound}
use Rattle.predicates.specs.declared.site.Kind.{Kind}
use Rattle.predicates.specs.Bounds.{key_before, keys_ascend, are_values, are_formed, numbers_ascend, values_ascend}
use Rattle.graph_data.specs.declared.graph.Vertex.{Vertex}
use Rattle.graph_data.specs.declared.graph.Site.{Site}
use Rattle.graph_data.specs.declared.graph.Function.{Function}
use Rattle.graph_data.specs.Order.{has_edges}
use Rattle.graph_data.specs.WellFormed.{IsVertex, edges_fit}
use Rattle.graph_lines.specs.declared.line.Line.TheVariants as line
use Rattle.graph_lines.specs.declared.line.VertexLine.TheVariants as in_vertex
use Rattle.graph_lines.specs.Line.{bound_line}
use Rattle.graph_builder.specs.declared.builder.PartialVertex.{PartialVertex}
use Rattle.graph_builder.specs.declared.builder.Position.TheVariants as position
use Rattle.graph_builder.specs.declared.builder.Builder.{Builder}
use Rattle.graph_builder.specs.Lines.{given_of, registers_lines, flags_lines, node_lines, edges_lines, pred_lines}
use Rattle.graph_builder.specs.Partial.{filled, registers_of, forest_of_levels, empty_vertex, closed_vertex}
use Rattle.graph_builder.specs.Follow.{is_whole}
use Rattle.graph_builder.specs.Order.{extends_order, registers_ascend}
use Rattle.graph_lines.specs.LineLimits.{is_within_number_limit}
use Rattle.graph_builder.proofs.BuildsLists.{each_all, begins_first}
use Rattle.graph_builder.specs.Building.{built_from}
use Rattle.graph_builder.proofs.BuildsSteps.{step_then, steps_then, Reads, elements}
use Rattle.graph_builder.proofs.BuildsForest.{levels_after, nested_after}
use Rattle.graph_builder.proofs.BuildsRegisters.{filled_given, given_ascends}
use Rattle.graph_builder.proofs.BuildsNodes.{forest_reads}

-- the registers after a line that gives some, or none
abbrev pub regs_in : List (ℕ × Option PlainSum) → Option (List (Option PlainSum))
regs_in [] = None
regs_in (given ∷ more) = Some (filled (given ∷ more))

registers_in : (given : List (ℕ × Option PlainSum)) → registers_of (regs_in given) ≡ filled given
registers_in [] = refl
registers_in (given ∷ more) = refl

-- what is open after all lines of a vertex
abbrev pub opened : Vertex → PartialVertex
opened v = record {
  regs = regs_in (given_of v.pred.regs);
  flags = v.pred.flags;
  bounds = v.pred.bounds;
  levels = levels_after v.pred.forest [];
  out = v.out;
}

-- closed, it is the vertex
pub closed_opened : (kind : Kind) (v : Vertex) → IsVertex kind v → closed_vertex (opened v) ≡ v
closed_opened kind v h =
    let regs : registers_of (regs_in (given_of v.pred.regs)) ≡ v.pred.regs = registers_in (given_of v.pred.regs) ∙ filled_given v.pred.regs h.pred.formed.sixteen in
    let forest : forest_of_levels (levels_after v.pred.forest []) ≡ v.pred.forest = nested_after v.pred.forest in
    λ i. record { pred = record { regs = regs i; flags = v.pred.flags; bounds = v.pred.bounds; forest = forest i }; out = v.out }

-- ---- what the forms of values and edges say

values_fit : (set : Values) → are_values set ≡ true → (values_ascend set ≡ true) × (is_within_number_limit set ≡ true)
values_fit (Range low high) e = (e, refl)
values_fit (OneOf numbers) e =
    let parts = and_parts (nat_le 1 (length numbers)) (nat_le (length numbers) 1024 && numbers_ascend numbers) e in
    let others = and_parts (nat_le (length numbers) 1024) (numbers_ascend numbers) parts.1 in
    (others.1, others.0)

pub edges_by : (t : Bool) (edge : ℕ × ℕ) (more : List (ℕ × ℕ))
    → (if t then nat_le 1 (length (edge ∷ more)) && nat_le (length (edge ∷ more)) 1024 else length (edge ∷ more) == 0) ≡ true
    → (t ≡ true) × (nat_le (length (edge ∷ more)) 1024 ≡ true)
edges_by true edge more e = (refl, (and_parts (nat_le 1 (length (edge ∷ more))) (nat_le (length (edge ∷ more)) 1024) e).1)
edges_by false edge more e = absurd (omega (arith, eqb-true (length (edge ∷ more)) 0 e))

whole_by : (t : Bool) (out : List (ℕ × ℕ)) → (if t then nat_le 1 (length out) && nat_le (length out) 1024 else length out == 0) ≡ true → not (t && (length out == 0)) ≡ true
whole_by true [] e = absurd (cc)
whole_by true (edge ∷ more) e = rw (ne_eqb (suc (length more)) 0 (λ q. omega (arith, q))) refl
whole_by false out e = refl

-- nothing is missing
pub whole_opened : (kind : Kind) (v : Vertex) → IsVertex kind v → is_whole kind (opened v) ≡ true
whole_opened kind v h = whole_by (has_edges kind) v.out h.fits

module _ (functions : List Function) (f : Function) (s : Site) where
  abbrev at_open : PartialVertex → Builder
  at_open v = record { functions = functions; position = position.Vertex f s v }

  abbrev with_regs : Option (List (Option PlainSum)) → Builder
  with_regs regs = at_open (record { regs = regs; flags = None; bounds = []; levels = []; out = [] })

  registers_then : (given : List (ℕ × Option PlainSum)) → registers_ascend given ≡ true → built_from (with_regs None) (registers_lines given) ≡ Ok (with_regs (regs_in given))
  registers_then [] e = refl
  registers_then (given ∷ more) e = step_then (with_regs None) (line.InVertex (in_vertex.Registers (given ∷ more))) [] (with_regs (regs_in (given ∷ more))) refl e refl refl

  abbrev with_bounds : Option (List (Option PlainSum)) → Option FlagFact → List Bound → Builder
  with_bounds regs flags bounds = at_open (record { regs = regs; flags = flags; bounds = bounds; levels = []; out = [] })

  flags_then : (regs : Option (List (Option PlainSum))) (flags : Option FlagFact) → built_from (with_regs regs) (flags_lines flags) ≡ Ok (with_bounds regs flags [])
  flags_then regs None = refl
  flags_then regs (Some fact) = step_then (with_regs regs) (line.InVertex (in_vertex.Flags fact)) [] (with_bounds regs (Some fact) []) refl refl refl refl

  module _ (regs : Option (List (Option PlainSum))) (flags : Option FlagFact) where
    abbrev HasBounds : List Bound → Builder → Type 0
    HasBounds done r = r ≡ with_bounds regs flags done

    bound_then : (done : List Bound) (b : Bound) (r : Builder) → HasBounds done r → are_values b.set ≡ true → extends_order key_before done b ≡ true → length done < 16
        → Reads (HasBounds (done ++ b ∷ [])) r (line.InVertex (in_vertex.Bound b) ∷ [])
    bound_then done b r h e order few = record {
      after = with_bounds regs flags (done ++ b ∷ []);
      reads =
          ap (λ r. built_from r (line.InVertex (in_vertex.Bound b) ∷ [])) h
          ∙ step_then (with_bounds regs flags done) (line.InVertex (in_vertex.Bound b)) [] (with_bounds regs flags (done ++ b ∷ [])) refl
          (and_from (values_ascend b.set) (extends_order key_before done b) (values_fit b.set e).0 order)
          (and_from (is_within_number_limit b.set) (nat_lt (length done) 16) (values_fit b.set e).1 (lt-ltb (length done) 16 few)) refl;
      holds = refl;
    }

    bounds_then : (bounds : List Bound) → keys_ascend bounds ≡ true → are_formed bounds ≡ true → length bounds ≤ 16
        → built_from (with_bounds regs flags []) (map bound_line bounds) ≡ Ok (with_bounds regs flags bounds)
    bounds_then bounds order formed few =
        let h = elements HasBounds (λ b. line.InVertex (in_vertex.Bound b) ∷ []) key_before (λ b. are_values b.set ≡ true) 16 bound_then bounds [] (with_bounds regs flags []) refl
        (each_all (λ b. are_values b.set) bounds formed) order (begins_first key_before bounds) (omega (arith, few)) in
        ap (built_from (with_bounds regs flags [])) (sym (flat_map_single bound_line bounds)) ∙ h.reads ∙ ap Ok h.holds

  edges_then : (v : PartialVertex) (out : List (ℕ × ℕ)) → v.out ≡ [] → edges_fit s.kind out ≡ true
      → built_from (at_open v) (edges_lines out) ≡ Ok (at_open (record { regs = v.regs; flags = v.flags; bounds = v.bounds; levels = v.levels; out = out }))
  edges_then v [] e fits = ap (λ o. Ok (at_open (record { regs = v.regs; flags = v.flags; bounds = v.bounds; levels = v.levels; out = o }))) e
  edges_then v (edge ∷ more) e fits =
      let both = edges_by (has_edges s.kind) edge more fits in
      step_then (at_open v) (line.InVertex (in_vertex.Edges (edge ∷ more))) [] (at_open (record { regs = v.regs; flags = v.flags; bounds = v.bounds; levels = v.levels; out = edge ∷ more }))
      (and_from (has_edges s.kind) (length v.out == 0) both.0 (ap (λ o. length o == 0) e)) refl both.1 refl

  -- the lines of a predicate and of edges
  pub vertex_then : (v : Vertex) → IsVertex s.kind v → built_from (at_open empty_vertex) (pred_lines v.pred ++ edges_lines v.out) ≡ Ok (at_open (opened v))
  vertex_then v h =
      let p = v.pred in
      let bounded = and_parts (nat_le (length p.bounds) 16) (keys_ascend p.bounds && are_formed p.bounds) h.pred.formed.bounded in
      let formed = and_parts (keys_ascend p.bounds) (are_formed p.bounds) bounded.1 in
      let regs : Option (List (Option PlainSum)) = regs_in (given_of p.regs) in
      let last : Builder = at_open (record { regs = regs; flags = p.flags; bounds = p.bounds; levels = levels_after p.forest []; out = [] }) in
      steps_then (at_open empty_vertex) (pred_lines p) (edges_lines v.out) last (at_open (opened v))
      (steps_then (at_open empty_vertex) (registers_lines (given_of p.regs)) (flags_lines p.flags ++ (map bound_line p.bounds ++ node_lines 0 p.forest)) (with_regs regs) last
      (registers_then (given_of p.regs) (given_ascends p.regs))
      (steps_then (with_regs regs) (flags_lines p.flags) (map bound_line p.bounds ++ node_lines 0 p.forest) (with_bounds regs p.flags []) last
      (flags_then regs p.flags)
      (steps_then (with_bounds regs p.flags []) (map bound_line p.bounds) (node_lines 0 p.forest) (with_bounds regs p.flags p.bounds) last
      (bounds_then regs p.flags p.bounds formed.0 formed.1 (leb-true (length p.bounds) 16 bounded.0))
      (forest_reads functions f s regs p.flags p.bounds p.forest h.pred.forest))))
      (edges_then (record { regs = regs; flags = p.flags; bounds = p.bounds; levels = levels_after p.forest []; out = [] }) v.out refl h.fits)
