-- The rules of a site of a function that was built.
use Rattle.std.proofs.Common.{◌≡◌, ◌<◌, ◌⊎◌, ◌+◌, ◌%◌, ◌^◌, ℕ, true, List, [], ◌∷◌, length, map, Some, None, slice_get, refl, sym, ap, ◌∙◌, subst, inl, inr}
use Rattle.std.specs.List.{All, Contains}
use Rattle.std.specs.Option.{option_map}
use Rattle.std.proofs.lemmas.List.Elements.{All-map}
use Rattle.elf_image.specs.declared.image.Image.{Image}
use Rattle.predicates.specs.Predicate.{Predicate}
use Rattle.predicates.specs.Kinds.{has_edges}
use Rattle.predicates.specs.declared.site.Kind.{Kind}
use Rattle.predicates.specs.declared.site.Kind.TheVariants.{Step, Call, Outside, Return, End}
use Rattle.predicate_meaning.specs.Returns.{Returns}
use Rattle.graph_data.specs.declared.graph.Vertex.{Vertex}
use Rattle.graph_data.specs.declared.graph.Function.{Function}
use Rattle.graph_data.specs.declared.graph.Graph.{Graph as Whole}
use Rattle.x86_instr.specs.declared.class.Class.{Class}
use Rattle.x86_instr.specs.declared.class.Class.TheVariants as class
use Rattle.x86_instr.specs.declared.instr.Instr.{Instr}
use Rattle.x86_instr.specs.Classes.{class_of as op_class}
use Rattle.x86_machine.specs.Next.{next_address}
use Rattle.instr_at.specs.At.{instr_at, InstrAtLaw}
use Rattle.graph_runs.specs.World.{x86}
use Rattle.graph_runs.specs.Classes.{kind_of, class_by}
use Rattle.graph_rules.specs.Rules.{rules, case_of as rules_case}
use Rattle.simulation.specs.World.{Ordinary, Calling, System, Returning}
use Rattle.simulation.specs.Valid.{KindHolds, SiteHolds, StepHolds, AfterHolds, CallHolds, EachVertex, Place, EdgesHold}
use Rattle.simulation.proofs.ListLemmas.{to_present}
use Rattle.step_rules.specs.Cases as step
use Rattle.step_rules.specs.Calls.{after, call_target, KeepsHold}
use Rattle.pred_step.specs.Restored.{are_restored}
use Rattle.pred_step.proofs.ReturnLemmas.{returns_exactly}
use Rattle.lift_graph.specs.declared.graph.Graph.{Graph}
use Rattle.lift_rounds.specs.Known.{Known, cases_at}
use Rattle.image_steps.specs.Meant.{case_of}
use Rattle.site_lines.specs.declared.lines.Lines.{Lines}
use Rattle.site_lines.specs.Subject.{Subject, frame_below, frame_above}
use Rattle.site_lines.specs.Kinds.{kind_at}
use Rattle.site_lines.specs.Lines.{lines_at, lines_here, view_with, with_saved, with_pairs}
use Rattle.lifted_parts.specs.Built.{IsBuilt, AreAddresses, vertex_of, here, preds_here, site_of, known_or_nothing}
use Rattle.lifted_parts.specs.Rest.{IsAtRest}
use Rattle.lifted_parts.specs.Whole.{HasCallees}
use Rattle.lifted_parts.proofs.CaseLemmas.{IsHere, is_here, cases_with}
use Rattle.lifted_parts.proofs.EdgeLemmas.{edges_hold}
use Rattle.lifted_rules.proofs.ListLemmas.{all_by, passes}
use Rattle.lifted_rules.proofs.KindLemmas.{stands, step_class, call_class, outside_class, return_class}
use Rattle.lifted_rules.proofs.LineLemmas.{lines_kind, lines_edges, lines_undecided}
use Rattle.lifted_rules.proofs.TargetLemmas.{target_is}
use Rattle.lifted_rules.proofs.KeepLemmas.{keeps_hold}

-- a function with the sites of addresses
abbrev pub function_of : Subject → Graph → List (Known Predicate) → ℕ → List ℕ → Function
function_of s g known entry addresses = record { entry = entry; below = frame_below; above = frame_above; refused = None; sites = map (site_of s g known) addresses }

pub function_built : (s : Subject) (g : Graph) (known : List (Known Predicate)) (entry : ℕ) (addresses : List ℕ) → AreAddresses g addresses → IsBuilt s g known entry (function_of s g known entry addresses)
function_built s g known entry addresses all = record { entry_is = refl; below = refl; above = refl; unrefused = refl; addresses = addresses; all = all; sites = refl }

-- a function that was built is one
pub function_is : (s : Subject) (g : Graph) (known : List (Known Predicate)) (entry : ℕ) (f : Function) → (built : IsBuilt s g known entry f) → f ≡ function_of s g known entry built.addresses
function_is s g known entry f built =
    λ j. record { entry = built.entry_is j; below = built.below j; above = built.above j; refused = built.unrefused j; sites = built.sites j }

-- the one case after an instruction that calls
one_case : (c : Class) (lines : Lines) (image : Image) (i : Instr) (p : Predicate) (cs : List step.Case) → (c ≡ class.Call) ⊎ (c ≡ class.SystemCall) → step.cases_by c (view_with image lines) i p ≡ Some cs → step.case (next_address i) (after (view_with image lines) i p) ∷ [] ≡ cs
one_case c lines image i p cs (inl e) h = let k : step.cases_by class.Call (view_with image lines) i p ≡ Some cs = subst (λ x. step.cases_by x (view_with image lines) i p ≡ Some cs) e h in cc
one_case c lines image i p cs (inr e) h = let k : step.cases_by class.SystemCall (view_with image lines) i p ≡ Some cs = subst (λ x. step.cases_by x (view_with image lines) i p ≡ Some cs) e h in cc

module _ (s : Subject) (g : Graph) (known : List (Known Predicate)) (entry : ℕ) (addresses : List ℕ) (rest : IsAtRest s g known entry) (all : AreAddresses g addresses) (law : InstrAtLaw) where
  -- the place of a site's instruction
  abbrev place_of : ℕ → Instr → Place (x86 s.image)
  place_of a i = record { function = function_of s g known entry addresses; site = site_of s g known a; instr = i }

  -- the lines of a site
  abbrev lines_of : ℕ → Lines
  lines_of a = lines_at s a (preds_here g known a)

  vertex_is_here : (a k v : ℕ) → slice_get (here g a) k ≡ Some v → IsHere s g known a v
  vertex_is_here a k v h = is_here s g known entry (function_of s g known entry addresses) rest (function_built s g known entry addresses all) a k v h

  vertex_edges : (v : ℕ) → v < length g.keys.items → (cs : List step.Case) → map case_of cs ≡ cases_at known v → EdgesHold (x86 s.image) (rules s.image) (function_of s g known entry addresses) (map rules_case cs) (vertex_of g known v).out
  vertex_edges v l cs e = edges_hold s g known entry (function_of s g known entry addresses) rest (function_built s g known entry addresses all) v l cs e

  -- a fact of each vertex of a site
  each_vertex : (Holds : Vertex → Type 0) (a : ℕ) → ((v : ℕ) → IsHere s g known a v → Holds (vertex_of g known v)) → All Holds (site_of s g known a).vertices
  each_vertex Holds a h = All-map Holds (vertex_of g known) (here g a) (all_by (λ v. Holds (vertex_of g known v)) (here g a) (λ k v e. h v (vertex_is_here a k v e)))

  -- the cases of a vertex by the instruction
  cases_are : (a v : ℕ) (i : Instr) (here : IsHere s g known a v) → instr_at s.image a ≡ Some i → has_edges (lines_of a).kind ≡ true → step.cases (view_with s.image (lines_of a)) i here.pred ≡ Some here.cases
  cases_are a v i here e h = sym (cases_with s (lines_of a) (instr_at s.image a) i here.pred e h) ∙ here.gives

  step_holds : (a v : ℕ) (i : Instr) → IsHere s g known a v → instr_at s.image a ≡ Some i → has_edges (lines_of a).kind ≡ true → StepHolds (x86 s.image) (rules s.image) (place_of a i) (vertex_of g known v)
  step_holds a v i here e h =
      let F = function_of s g known entry addresses in
      let view = view_with s.image (lines_of a) in
      let found : option_map (map rules_case) (step.cases view i (vertex_of g known v).pred) ≡ Some (map rules_case here.cases) =
      ap (λ o. option_map (map rules_case) (step.cases view i (known_or_nothing o))) here.known_is ∙ ap (option_map (map rules_case)) (cases_are a v i here e h) in
      record {
        fork = refl;
        cases = to_present (λ cs. EdgesHold (x86 s.image) (rules s.image) F cs (vertex_of g known v).out) (option_map (map rules_case) (step.cases view i (vertex_of g known v).pred)) (map rules_case here.cases) found
            (vertex_edges v here.below here.cases here.same);
      }

  after_holds : (a v : ℕ) (i : Instr) (k : Kind) → IsHere s g known a v → instr_at s.image a ≡ Some i → has_edges k ≡ true → (lines_of a).kind ≡ k → lines_of a ≡ with_saved s.image (with_pairs s.image k i (preds_here g known a)) i (preds_here g known a) → (op_class i.op ≡ class.Call) ⊎ (op_class i.op ≡ class.SystemCall) → AfterHolds (x86 s.image) (rules s.image) (place_of a i) (vertex_of g known v)
  after_holds a v i k here e h kind lines calls =
      let F = function_of s g known entry addresses in
      let view = view_with s.image (lines_of a) in
      let address : i.addr ≡ a = ((law s.image a i).0 e).address in
      let one = one_case (op_class i.op) (lines_of a) s.image i here.pred here.cases calls (cases_are a v i here e (ap has_edges kind ∙ h)) in
      let edges : EdgesHold (x86 s.image) (rules s.image) F (record { address = (i.addr + i.len) % 2 ^ 64; pred = after view i here.pred } ∷ []) (vertex_of g known v).out =
      subst (λ cs. EdgesHold (x86 s.image) (rules s.image) F (map rules_case cs) (vertex_of g known v).out) (sym one) (vertex_edges v here.below here.cases here.same) in
      let moved : EdgesHold (x86 s.image) (rules s.image) F (record { address = (a + i.len) % 2 ^ 64; pred = after view i here.pred } ∷ []) (vertex_of g known v).out =
      subst (λ x. EdgesHold (x86 s.image) (rules s.image) F (record { address = (x + i.len) % 2 ^ 64; pred = after view i here.pred } ∷ []) (vertex_of g known v).out) address edges in
      record {
        keeps = subst (λ o. KeepsHold view i (known_or_nothing o)) (sym here.known_is) (keeps_hold s.image (lines_of a) k i (preds_here g known a) here.pred lines here.member here.form.forest);
        case = subst (λ o. EdgesHold (x86 s.image) (rules s.image) F (record { address = (a + i.len) % 2 ^ 64; pred = after view i (known_or_nothing o) } ∷ []) (vertex_of g known v).out) (sym here.known_is) moved;
      }

  -- the rules of a site of each kind
  kind_holds : (graph : Whole) → HasCallees s.image graph (function_of s g known entry addresses) → (a : ℕ) → Contains (map (site_of s g known) addresses) (site_of s g known a) → (k : Kind) → kind_at s a (instr_at s.image a) (preds_here g known a) ≡ k → (lines_of a).kind ≡ k → KindHolds (x86 s.image) (rules s.image) graph (function_of s g known entry addresses) (site_of s g known a) (kind_of k)
  kind_holds graph callees a at Step e kind =
      let w = stands s a (instr_at s.image a) (preds_here g known a) Step e refl in
      let i = w.0 in
      let Holds : Instr → Type 0 = λ j. EachVertex (x86 s.image) (place_of a j) (λ c. c ≡ Ordinary) (StepHolds (x86 s.image) (rules s.image) (place_of a j)) in
      to_present Holds (instr_at s.image a) i w.1 (record {
        class = step_class s a i (preds_here g known a) (op_class i.op) w.2;
        each = each_vertex (StepHolds (x86 s.image) (rules s.image) (place_of a i)) a (λ v here. step_holds a v i here w.1 (ap has_edges kind));
      })
  kind_holds graph callees a at (Call t) e kind =
      let preds = preds_here g known a in
      let w = stands s a (instr_at s.image a) preds (Call t) e refl in
      let i = w.0 in
      let c = call_class s a i preds t (op_class i.op) w.2 in
      let lines = ap (λ k. lines_here s.image k (instr_at s.image a) preds) e ∙ lines_edges s.image (Call t) (instr_at s.image a) i preds w.1 refl in
      let Holds : Instr → Type 0 = λ j. EachVertex (x86 s.image) (place_of a j) (λ c. c ≡ Calling) (CallHolds (x86 s.image) (rules s.image) (place_of a j) t) in (
        callees (site_of s g known a) t at kind,
        to_present Holds (instr_at s.image a) i w.1 (record {
          class = ap class_by c.0;
          each = each_vertex (CallHolds (x86 s.image) (rules s.image) (place_of a i) t) a (λ v here. record {
            goes = ap (λ o. call_target (view_with s.image (lines_of a)) i (known_or_nothing o)) here.known_is ∙ target_is s.image (lines_of a) i preds t here.pred c.1 here.member;
            after = after_holds a v i (Call t) here w.1 refl kind lines (inl c.0);
          });
        }),
      )
  kind_holds graph callees a at Outside e kind =
      let preds = preds_here g known a in
      let w = stands s a (instr_at s.image a) preds Outside e refl in
      let i = w.0 in
      let c = outside_class s a i preds (op_class i.op) w.2 in
      let lines = ap (λ k. lines_here s.image k (instr_at s.image a) preds) e ∙ lines_edges s.image Outside (instr_at s.image a) i preds w.1 refl in
      let Holds : Instr → Type 0 = λ j. EachVertex (x86 s.image) (place_of a j) (λ c. (c ≡ Calling) ⊎ (c ≡ System)) (AfterHolds (x86 s.image) (rules s.image) (place_of a j)) in
      to_present Holds (instr_at s.image a) i w.1 (record {
        class = elim c as (λ _. (class_by (op_class i.op) ≡ Calling) ⊎ (class_by (op_class i.op) ≡ System)) [ inl x ↦ inl (ap class_by x) | inr x ↦ inr (ap class_by x) ];
        each = each_vertex (AfterHolds (x86 s.image) (rules s.image) (place_of a i)) a (λ v here. after_holds a v i Outside here w.1 refl kind lines c);
      })
  kind_holds graph callees a at Return e kind =
      let preds = preds_here g known a in
      let w = stands s a (instr_at s.image a) preds Return e refl in
      let i = w.0 in
      let c = return_class s a i preds (op_class i.op) w.2 in
      let Holds : Instr → Type 0 = λ j. EachVertex (x86 s.image) (place_of a j) (λ c. c ≡ Returning) (λ (v : Vertex). Returns v.pred) in
      to_present Holds (instr_at s.image a) i w.1 (record {
        class = c.0;
        each = each_vertex (λ (v : Vertex). Returns v.pred) a (λ v here. subst (λ o. Returns (known_or_nothing o)) (sym here.known_is) ((returns_exactly here.pred).0 (passes are_restored preds here.pred c.1 here.member)));
      })
  kind_holds graph callees a at (End r) e kind = tt

  -- all rules of a site
  pub site_holds : (graph : Whole) → HasCallees s.image graph (function_of s g known entry addresses) → (a : ℕ) → Contains (map (site_of s g known) addresses) (site_of s g known a) → SiteHolds (x86 s.image) (rules s.image) graph (function_of s g known entry addresses) (site_of s g known a)
  site_holds graph callees a at =
      let preds = preds_here g known a in
      let o = instr_at s.image a in
      record {
        fact = record { seps = lines_undecided s.image (kind_at s a o preds) o preds; fork = tt };
        kind = kind_holds graph callees a at (lines_of a).kind (sym (lines_kind s.image (kind_at s a o preds) o preds)) refl;
      }
