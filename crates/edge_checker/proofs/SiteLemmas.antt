-- A site breaks no rule exactly where the rules of its kind hold.
use Rattle.std.proofs.Common.{◌≡◌, ◌↔◌, ◌⊎◌, inl, inr, ℕ, ◌+◌, ◌%◌, ◌^◌, true, List, [], ◌∷◌, ◌++◌, map, length, Some, None, Option, refl, sym, ap, subst, arith, eqb, All, ◌&&◌, IfSome}
use Rattle.std.specs.Prelude.{IsSome, IsSomeAnd, if◌then◌else◌, nat_le, is_none, ⊤}
use Rattle.std.specs.Option.{option_map}
use Rattle.std.specs.List.{flat_map, enumerate_from}
use Rattle.std.proofs.lemmas.Bool.{and_parts}
use Rattle.std.proofs.lemmas.Bool.Decides.{Decides-eqb}
use Rattle.std.proofs.lemmas.List.Elements.{All-nil}
use Rattle.simulation.specs.World.{Class, Ordinary, Calling, System, Returning}
use Rattle.simulation.specs.Graph.{callee}
use Rattle.simulation.specs.Valid.{Place, EdgesHold, StepHolds, AfterHolds, CallHolds, EachVertex, KindHolds, SiteHolds, case_after}
use Rattle.elf_image.specs.declared.image.Image.{Image}
use Rattle.x86_instr.specs.declared.class.Class as op_classes
use Rattle.x86_instr.specs.declared.instr.Instr.{Instr}
use Rattle.x86_instr.specs.Classes.{class_of as op_class}
use Rattle.x86_machine.specs.Next.{next_address}
use Rattle.instr_at.specs.At.{instr_at, InstrAtLaw}
use Rattle.predicates.specs.declared.site.Kind.{Kind}
use Rattle.predicates.specs.declared.site.Reason.{Reason}
use Rattle.predicates.specs.declared.site.Kind.TheVariants.{Step, Call, Outside, Return, End}
use Rattle.predicates.specs.Kinds.{has_edges}
use Rattle.predicates.specs.Bounds.{in_order}
use Rattle.predicate_meaning.specs.Returns.{Returns}
use Rattle.graph_data.specs.declared.graph.Vertex.{Vertex}
use Rattle.graph_data.specs.declared.graph.Site.{Site}
use Rattle.graph_data.specs.declared.graph.Function.{Function}
use Rattle.graph_data.specs.declared.graph.Graph.{Graph}
use Rattle.graph_data.specs.Limits.{most_pairs}
use Rattle.graph_data.specs.Order.{pair_before}
use Rattle.graph_data.specs.Parts.{Each}
use Rattle.graph_data.specs.WellFormed.{IsVertex, IsSite, IsWellFormed, seps_fit, fork_fits}
use Rattle.graph_verdict.specs.declared.verdict.Rule.{Rule}
use Rattle.graph_verdict.specs.declared.verdict.Broken.{Broken}
use Rattle.step_rules.specs.Cases.{Case, case, cases, cases_by}
use Rattle.step_rules.specs.Calls.{after, call_target}
use Rattle.step_rules.specs.Site.{fork_holds, IsUndecided, PairsUndecided}
use Rattle.sym_step.specs.Restored.{is_returned}
use Rattle.sym_step.specs.Kept.{are_kept}
use Rattle.graph_runs.specs.Classes.{class_by, class_of, kind_of}
use Rattle.graph_runs.specs.World.{x86}
use Rattle.graph_rules.specs.Rules.{case_of, rules}
use Rattle.edge_checker.specs.Breaks.{view_of, unless, broken, edges_break, vertex_rules, callee_rules, breaks_of_kind, site_breaks}
use Rattle.edge_checker.specs.Decisions.{fits, entries_of, is_callee, goes_to, are_undecided}
use Rattle.edge_checker.proofs.EmptyLemmas.{append-empty, map-empty, unless-empty, rule_then, else-empty, numbered-empty}
use Rattle.edge_checker.proofs.SizeLemmas.{cases_sized}
use Rattle.edge_checker.proofs.KindLemmas.{step_fits, call_fits, leave_fits, return_fits, only_call, only_syscall, pairs_undecided, goes, keeps, returned}
use Rattle.edge_checker.proofs.CalleeLemmas.{callees}
use Rattle.edge_checker.proofs.EdgeLemmas.{edges-empty}

-- the place of an instruction
abbrev place_of : (image : Image) → Function → Site → Instr → Place (x86 image)
place_of image f s i = record { function = f; site = s; instr = i }

-- ---- what a site breaks, as of a kind

abbrev vertex_by : Kind → Image → Function → Site → Instr → ℕ × Vertex → List Broken
vertex_by kind image f s i v =
    map (broken f.entry s.addr v.0 0) (vertex_rules kind (view_of image f s) i v.1.pred)
    ++ (if has_edges kind then edges_break f s v.0 (cases (view_of image f s) i v.1.pred) v.1.out else [])

abbrev fitting_by : Kind → Image → List ℕ → Function → Site → Instr → List Broken
fitting_by kind image entries f s i =
    map (broken f.entry s.addr 0 0) (callee_rules entries kind ++ unless (are_undecided (view_of image f s)) Rule.Decided)
    ++ flat_map (vertex_by kind image f s i) (enumerate_from 0 s.vertices)

abbrev breaks_by : Kind → Image → List ℕ → Function → Site → Option Instr → List Broken
breaks_by kind image entries f s None = broken f.entry s.addr 0 0 Rule.Kind ∷ []
breaks_by kind image entries f s (Some i) =
    if fits kind (op_class i.op) then fitting_by kind image entries f s i else broken f.entry s.addr 0 0 Rule.Kind ∷ []

-- ---- a vertex

module _ (image : Image) (f : Function) (s : Site) (sites : Each IsSite f.sites) (i : Instr) (n : ℕ) (v : Vertex) where
  -- the edges stand for the cases of the instruction
  edges_exactly : (kind : Kind) → IsVertex kind v →
      (edges_break f s n (cases (view_of image f s) i v.pred) v.out ≡ []) ↔ IsSomeAnd (option_map (map case_of) (cases (view_of image f s) i v.pred)) (λ cs. EdgesHold (x86 image) (rules image) f cs v.out)
  edges_exactly kind formed =
      edges-empty image f s n (cases (view_of image f s) i v.pred) v.out sites (λ cs e. cases_sized 16 (view_of image f s) i v.pred cs formed.pred.formed.sixteen e)

  step-empty : IsVertex Step v → (vertex_by Step image f s i (n, v) ≡ []) ↔ StepHolds (x86 image) (rules image) (place_of image f s i) v
  step-empty formed =
      let parts = rule_then (broken f.entry s.addr n 0) (fork_holds (view_of image f s) i v.pred) Rule.Fork (edges_break f s n (cases (view_of image f s) i v.pred) v.out) in
      let edges = edges_exactly Step formed in
      (λ e. record { fork = (parts.0 e).0; cases = edges.0 (parts.0 e).1 }, λ h. parts.1 (h.fork, edges.1 h.cases))

  -- the one edge after a call stands for its one case
  after_exactly : (kind : Kind) → IsVertex kind v → i.addr ≡ s.addr → cases (view_of image f s) i v.pred ≡ Some (case (next_address i) (after (view_of image f s) i v.pred) ∷ []) →
      (edges_break f s n (cases (view_of image f s) i v.pred) v.out ≡ []) ↔ EdgesHold (x86 image) (rules image) f (case_after (x86 image) (rules image) (place_of image f s i) v.pred ∷ []) v.out
  after_exactly kind formed here one =
      let edges = edges_exactly kind formed in
      let Known : Option (List Case) → Type 0 = λ o. IsSomeAnd (option_map (map case_of) o) (λ cs. EdgesHold (x86 image) (rules image) f cs v.out) in
      let At : ℕ → Type 0 = λ a. EdgesHold (x86 image) (rules image) f (case_of (case ((a + i.len) % 2 ^ 64) (after (view_of image f s) i v.pred)) ∷ []) v.out in
      (λ e. subst At here (subst Known one (edges.0 e)), λ h. edges.1 (subst Known (sym one) (subst At (sym here) h)))

  outside-empty : IsVertex Outside v → i.addr ≡ s.addr → cases (view_of image f s) i v.pred ≡ Some (case (next_address i) (after (view_of image f s) i v.pred) ∷ []) →
      (vertex_by Outside image f s i (n, v) ≡ []) ↔ AfterHolds (x86 image) (rules image) (place_of image f s i) v
  outside-empty formed here one =
      let parts = rule_then (broken f.entry s.addr n 0) (are_kept (view_of image f s) i v.pred) Rule.Keep (edges_break f s n (cases (view_of image f s) i v.pred) v.out) in
      let kept = keeps (view_of image f s) i v.pred in
      let edges = after_exactly Outside formed here one in (
        λ e. record { keeps = kept.0 (parts.0 e).0; case = edges.0 (parts.0 e).1 },
        λ h. parts.1 (kept.1 h.keeps, edges.1 h.case),
      )

  call-empty : (target : ℕ) → IsVertex (Call target) v → i.addr ≡ s.addr → cases (view_of image f s) i v.pred ≡ Some (case (next_address i) (after (view_of image f s) i v.pred) ∷ []) →
      (vertex_by (Call target) image f s i (n, v) ≡ []) ↔ CallHolds (x86 image) (rules image) (place_of image f s i) target v
  call-empty target formed here one =
      let goal_test = goes_to target (call_target (view_of image f s) i v.pred) in
      let keep_test = are_kept (view_of image f s) i v.pred in
      let edge_list = edges_break f s n (cases (view_of image f s) i v.pred) v.out in
      let parts = append-empty (map (broken f.entry s.addr n 0) (unless goal_test Rule.Target ++ unless keep_test Rule.Keep)) edge_list in
      let two = map-empty (broken f.entry s.addr n 0) (unless goal_test Rule.Target ++ unless keep_test Rule.Keep) in
      let both = append-empty (unless goal_test Rule.Target) (unless keep_test Rule.Keep) in
      let goal_rule = unless-empty goal_test Rule.Target in
      let keep_rule = unless-empty keep_test Rule.Keep in
      let target_is = goes target (call_target (view_of image f s) i v.pred) in
      let kept = keeps (view_of image f s) i v.pred in
      let edges = after_exactly (Call target) formed here one in (
        λ e.
            let tests = both.0 (two.0 (parts.0 e).0) in
            record {
              goes = target_is.0 (goal_rule.0 tests.0);
              after = record { keeps = kept.0 (keep_rule.0 tests.1); case = edges.0 (parts.0 e).1 };
            },
        λ h. parts.1 (two.1 (both.1 (goal_rule.1 (target_is.1 h.goes), keep_rule.1 (kept.1 h.after.keeps))), edges.1 h.after.case),
      )

  return-empty : (vertex_by Return image f s i (n, v) ≡ []) ↔ Returns v.pred
  return-empty =
      let parts = rule_then (broken f.entry s.addr n 0) (is_returned v.pred) Rule.Return [] in
      let test = returned v.pred in
      (λ e. test.0 (parts.0 e).0, λ h. parts.1 (test.1 h, refl))

-- ---- a site

-- the rules of a site of a kind that is no end, with the fact of its class, of its callee and of each vertex
at-empty : (kind : Kind) (image : Image) (entries : List ℕ) (f : Function) (s : Site) (IsRight : Class → Type 0) (HasCallee : Type 0) (Holds : Instr → Vertex → Type 0)
    → ((c : op_classes.Class) → (fits kind c ≡ true) ↔ IsRight (class_by c))
    → ((callee_rules entries kind ≡ []) ↔ HasCallee)
    → (o : Option Instr)
    → ((i : Instr) (n : ℕ) (v : Vertex) → o ≡ Some i → IsRight (class_of i) → IsVertex kind v → (vertex_by kind image f s i (n, v) ≡ []) ↔ Holds i v)
    → Each (IsVertex kind) s.vertices
    → (breaks_by kind image entries f s o ≡ []) ↔ (PairsUndecided (view_of image f s) × (HasCallee × IsSomeAnd o (λ i. EachVertex (x86 image) (place_of image f s i) IsRight (Holds i))))
at-empty kind image entries f s IsRight HasCallee Holds right callee_is None each formed = (λ e. absurd (cc), λ h. absurd h.1.1)
at-empty kind image entries f s IsRight HasCallee Holds right callee_is (Some i) each formed =
    let own = callee_rules entries kind ++ unless (are_undecided (view_of image f s)) Rule.Decided in
    let vertices = flat_map (vertex_by kind image f s i) (enumerate_from 0 s.vertices) in
    let stands = else-empty (fits kind (op_class i.op)) (map (broken f.entry s.addr 0 0) own ++ vertices) (broken f.entry s.addr 0 0 Rule.Kind) in
    let parts = append-empty (map (broken f.entry s.addr 0 0) own) vertices in
    let named = map-empty (broken f.entry s.addr 0 0) own in
    let both = append-empty (callee_rules entries kind) (unless (are_undecided (view_of image f s)) Rule.Decided) in
    let decided = unless-empty (are_undecided (view_of image f s)) Rule.Decided in
    let pairs = pairs_undecided (view_of image f s) in
    let class_is = right (op_class i.op) in
    let all = λ (is : IsRight (class_of i)). numbered-empty (IsVertex kind) (Holds i) (vertex_by kind image f s i) (λ n v k. each i n v refl is k) 0 s.vertices formed in (
      λ e.
          let there = stands.0 e in
          let is : IsRight (class_of i) = class_is.0 there.0 in
          let two = parts.0 there.1 in
          let tests = both.0 (named.0 two.0) in
          (pairs.0 (decided.0 tests.1), (callee_is.0 tests.0, record { class = is; each = (all is).0 two.1 })),
      λ h.
          let vertex = h.1.1 in
          stands.1 (class_is.1 vertex.class, parts.1 (named.1 (both.1 (callee_is.1 h.1.0, decided.1 (pairs.1 h.0))), (all vertex.class).1 vertex.each)),
    )

-- no pair is undecided where there is none
no_pair : (image : Image) (f : Function) (s : Site) → s.seps ≡ [] → s.fork ≡ None → PairsUndecided (view_of image f s)
no_pair image f s seps fork =
    let v = view_of image f s in
    record {
      seps = subst (λ ps. All (IsUndecided v) ps) (sym seps) (All-nil (IsUndecided v));
      fork = subst (λ o. IfSome o (IsUndecided v)) (sym fork) tt;
    }

no_items : {A : Type 0} (xs : List A) → eqb (length xs) 0 ≡ true → xs ≡ []
no_items [] e = refl
no_items (x ∷ xs) e = let same = (Decides-eqb (length (x ∷ xs)) 0).0 e in absurd (omega (arith, same))

nothing : {A : Type 0} (o : Option A) → is_none o ≡ true → o ≡ None
nothing None e = refl
nothing (Some x) e = absurd (cc)

-- an end assumes nothing
end_pairs : (image : Image) (f : Function) (s : Site) (reason : Reason) → seps_fit (End reason) s.seps ≡ true → fork_fits (End reason) s.fork ≡ true → PairsUndecided (view_of image f s)
end_pairs image f s reason seps fork =
    let none_there = (and_parts (eqb (length s.seps) 0) (nat_le (length s.seps) most_pairs && in_order pair_before s.seps) seps).0 in
    no_pair image f s (no_items s.seps none_there) (nothing s.fork fork)

module _ (found : InstrAtLaw) (image : Image) (g : Graph) (well : IsWellFormed g) (f : Function) (sites : Each IsSite f.sites) (s : Site) where
  -- the instruction at the site has its address
  address_is : (i : Instr) → instr_at image s.addr ≡ Some i → i.addr ≡ s.addr
  address_is i e = ((found image s.addr i).0 e).address

  call_cases : (i : Instr) (v : Vertex) → class_of i ≡ Calling → cases (view_of image f s) i v.pred ≡ Some (case (next_address i) (after (view_of image f s) i v.pred) ∷ [])
  call_cases i v is = ap (λ c. cases_by c (view_of image f s) i v.pred) (only_call (op_class i.op) is)

  syscall_cases : (i : Instr) (v : Vertex) → class_of i ≡ System → cases (view_of image f s) i v.pred ≡ Some (case (next_address i) (after (view_of image f s) i v.pred) ∷ [])
  syscall_cases i v is = ap (λ c. cases_by c (view_of image f s) i v.pred) (only_syscall (op_class i.op) is)

  outside_cases : (i : Instr) (v : Vertex) → (class_of i ≡ Calling) ⊎ (class_of i ≡ System) → cases (view_of image f s) i v.pred ≡ Some (case (next_address i) (after (view_of image f s) i v.pred) ∷ [])
  outside_cases i v (inl is) = call_cases i v is
  outside_cases i v (inr is) = syscall_cases i v is

  -- the rules of each kind
  abbrev Kept : Kind → Type 0
  Kept kind = PairsUndecided (view_of image f s) × KindHolds (x86 image) (rules image) g f s (kind_of kind)

  kind-empty : (kind : Kind) → Each (IsVertex kind) s.vertices → seps_fit kind s.seps ≡ true → fork_fits kind s.fork ≡ true → kind ≡ s.kind →
      (breaks_of_kind kind image (entries_of g) f s (instr_at image s.addr) ≡ []) ↔ Kept kind
  kind-empty Step vertices seps fork is =
      let site = at-empty Step image (entries_of g) f s (λ c. c ≡ Ordinary) ⊤ (λ i v. StepHolds (x86 image) (rules image) (place_of image f s i) v)
      step_fits (λ e. tt, λ h. refl) (instr_at image s.addr) (λ i n v e c k. step-empty image f s sites i n v k) vertices in
      let all : (breaks_by Step image (entries_of g) f s (instr_at image s.addr) ≡ []) ↔ Kept Step = (λ e. let h = site.0 e in (h.0, h.1.1), λ h. site.1 (h.0, (tt, h.1))) in
      subst (λ k. (breaks_by k image (entries_of g) f s (instr_at image s.addr) ≡ []) ↔ Kept Step) is all
  kind-empty (Call target) vertices seps fork is =
      let known = unless-empty (is_callee (entries_of g) target) Rule.Callee in
      let called = callees image g target well in
      let site = at-empty (Call target) image (entries_of g) f s (λ c. c ≡ Calling) (IsSome (callee (x86 image) g target)) (λ i v. CallHolds (x86 image) (rules image) (place_of image f s i) target v)
      call_fits (λ e. called.0 (known.0 e), λ h. known.1 (called.1 h)) (instr_at image s.addr)
      (λ i n v e c k. call-empty image f s sites i n v target k (address_is i e) (call_cases i v c)) vertices in
      subst (λ k. (breaks_by k image (entries_of g) f s (instr_at image s.addr) ≡ []) ↔ Kept (Call target)) is site
  kind-empty Outside vertices seps fork is =
      let site = at-empty Outside image (entries_of g) f s (λ c. (c ≡ Calling) ⊎ (c ≡ System)) ⊤ (λ i v. AfterHolds (x86 image) (rules image) (place_of image f s i) v)
      leave_fits (λ e. tt, λ h. refl) (instr_at image s.addr)
      (λ i n v e c k. outside-empty image f s sites i n v k (address_is i e) (outside_cases i v c)) vertices in
      let all : (breaks_by Outside image (entries_of g) f s (instr_at image s.addr) ≡ []) ↔ Kept Outside = (λ e. let h = site.0 e in (h.0, h.1.1), λ h. site.1 (h.0, (tt, h.1))) in
      subst (λ k. (breaks_by k image (entries_of g) f s (instr_at image s.addr) ≡ []) ↔ Kept Outside) is all
  kind-empty Return vertices seps fork is =
      let site = at-empty Return image (entries_of g) f s (λ c. c ≡ Returning) ⊤ (λ i v. Returns v.pred)
      return_fits (λ e. tt, λ h. refl) (instr_at image s.addr) (λ i n v e c k. return-empty image f s sites i n v) vertices in
      let all : (breaks_by Return image (entries_of g) f s (instr_at image s.addr) ≡ []) ↔ Kept Return = (λ e. let h = site.0 e in (h.0, h.1.1), λ h. site.1 (h.0, (tt, h.1))) in
      subst (λ k. (breaks_by k image (entries_of g) f s (instr_at image s.addr) ≡ []) ↔ Kept Return) is all
  kind-empty (End reason) vertices seps fork is = (λ e. (end_pairs image f s reason seps fork, tt), λ h. refl)

  pub site-empty : IsSite s → (site_breaks image (instr_at image) (entries_of g) f s ≡ []) ↔ SiteHolds (x86 image) (rules image) g f s
  site-empty formed =
      let kind = kind-empty s.kind formed.vertices formed.seps_fit formed.fork_fits refl in
      (λ e. let h = kind.0 e in record { fact = h.0; kind = h.1 }, λ h. kind.1 (h.fact, h.kind))
