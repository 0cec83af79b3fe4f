-- The places where a graph breaks a rule, in the order of the file, and the verdict.
use Rattle.std.specs.Prelude.{◌≡◌, ℕ, ◌==◌, Bool, true, false, if◌then◌else◌, List, [], ◌∷◌, ◌++◌, map, Some, None, length, flat_map, option_to_list, option_and_then, slice_get}
use Rattle.std.specs.List.{enumerate_from, zip}
use Rattle.std.specs.Option.{option_map}
use Rattle.std.specs.declared.option.Option.{Option}
use Rattle.elf_image.specs.declared.image.Image.{Image}
use Rattle.x86_instr.specs.declared.instr.Instr.{Instr}
use Rattle.x86_instr.specs.Classes.{class_of}
use Rattle.instr_at.specs.At.{IsLookup}
use Rattle.predicates.specs.Predicate.{Predicate}
use Rattle.predicates.specs.Missing.{missing}
use Rattle.predicates.specs.Kinds.{has_edges}
use Rattle.predicates.specs.declared.conjunct.Conjunct.{Conjunct}
use Rattle.predicates.specs.declared.conjunct.Conjunct.TheVariants.{Register, Flags, Bound, Cell}
use Rattle.predicates.specs.declared.site.Kind.{Kind}
use Rattle.predicates.specs.declared.site.Kind.TheVariants.{Step, Call, Outside, Return, End}
use Rattle.graph_data.specs.declared.graph.Vertex.{Vertex}
use Rattle.graph_data.specs.declared.graph.Site.{Site}
use Rattle.graph_data.specs.declared.graph.Function.{Function}
use Rattle.graph_data.specs.declared.graph.Graph.{Graph}
use Rattle.graph_data.specs.Lookup.{site_at}
use Rattle.graph_verdict.specs.declared.verdict.Rule.{Rule}
use Rattle.graph_verdict.specs.declared.verdict.Broken.{Broken}
use Rattle.graph_verdict.specs.declared.verdict.Verdict.{Verdict}
use Rattle.graph_verdict.specs.declared.verdict.Verdict.TheVariants.{Valid, Invalid}
use Rattle.step_rules.specs.View.{View}
use Rattle.step_rules.specs.Cases.{Case, cases}
use Rattle.step_rules.specs.Calls.{call_target}
use Rattle.step_rules.specs.Site.{fork_holds}
use Rattle.sym_step.specs.Restored.{is_returned}
use Rattle.sym_step.specs.Kept.{are_kept}
use Rattle.edge_checker.specs.Decisions.{begins_unless_refused, fits, entries_of, is_callee, goes_to, are_undecided}

-- ---- places

-- the vertex with the number at the first site of the address
abbrev pub vertex_at : Function → ℕ × ℕ → Option Vertex
vertex_at f edge = option_and_then (λ site. slice_get site.vertices edge.1) (site_at f edge.0)

-- what the step rules know of a site
abbrev pub view_of : Image → Function → Site → View
view_of image f s = record {
  known = record { image = image; below = f.below; above = f.above; seps = s.seps };
  fork = s.fork;
  keeps = s.keeps;
}

-- a rule is broken where its test fails
abbrev pub unless : Bool → Rule → List Rule
unless true rule = []
unless false rule = rule ∷ []

-- the break of a rule at a function, a site, a vertex and a case
abbrev pub broken : ℕ → ℕ → ℕ → ℕ → Rule → Broken
broken function site vertex number rule =
    record { function = function; site = site; vertex = vertex; case = number; rule = rule }

-- the first element, if there is one
abbrev pub first : {A : Type 0} → List A → Option A
first [] = None
first (x ∷ xs) = Some x

-- ---- an edge

-- the rule of a conjunct
abbrev pub rule_of : Conjunct → Rule
rule_of (Register r) = Rule.Register
rule_of Flags = Rule.Flags
rule_of (Bound place) = Rule.Bound
rule_of (Cell place) = Rule.Cell

-- what an edge's target breaks: it is not there, or the first missing conjunct
abbrev pub target_rules : Predicate → Option Vertex → List Rule
target_rules p None = Rule.Vertex ∷ []
target_rules p (Some target) = option_to_list (option_map rule_of (missing p target.pred))

-- the rules that the edge of a case breaks
abbrev pub edge_rules : Function → Case × (ℕ × ℕ) → List Rule
edge_rules f x = unless (x.1.0 == x.0.address) Rule.Address ++ target_rules x.0.pred (vertex_at f x.1)

-- the same with their place, for the number of a vertex and of a case
abbrev pub edge_breaks : Function → Site → ℕ → ℕ × (Case × (ℕ × ℕ)) → List Broken
edge_breaks f s number x = map (broken f.entry s.addr number x.0) (edge_rules f x.1)

-- ---- a vertex

-- the rules that a vertex breaks before its cases: a pair that can't be told apart, a call that goes elsewhere, a kept
-- region that is not known, a return that is not verified
abbrev pub vertex_rules : Kind → View → Instr → Predicate → List Rule
vertex_rules Step v i p = unless (fork_holds v i p) Rule.Fork
vertex_rules (Call target) v i p =
    unless (goes_to target (call_target v i p)) Rule.Target ++ unless (are_kept v i p) Rule.Keep
vertex_rules Outside v i p = unless (are_kept v i p) Rule.Keep
vertex_rules Return v i p = unless (is_returned p) Rule.Return
vertex_rules (End reason) v i p = []

-- what the edges of the vertex with the number break: they are as many as the cases, which are known, and each edge's rules
abbrev pub edges_break : Function → Site → ℕ → Option (List Case) → List (ℕ × ℕ) → List Broken
edges_break f s number None out = broken f.entry s.addr number 0 Rule.Cases ∷ []
edges_break f s number (Some cases) out =
    map (broken f.entry s.addr number 0) (unless (length out == length cases) Rule.Cases)
    ++ flat_map (edge_breaks f s number) (enumerate_from 0 (zip cases out))

-- the same, where sites of the kind have edges
abbrev pub case_breaks : Image → Function → Site → Instr → ℕ × Vertex → List Broken
case_breaks image f s i v =
    if has_edges s.kind then edges_break f s v.0 (cases (view_of image f s) i v.1.pred) v.1.out else []

-- what a vertex with its number breaks
abbrev pub vertex_breaks : Image → Function → Site → Instr → ℕ × Vertex → List Broken
vertex_breaks image f s i v =
    map (broken f.entry s.addr v.0 0) (vertex_rules s.kind (view_of image f s) i v.1.pred)
    ++ case_breaks image f s i v

-- ---- a site

-- a call names a function of the graph that is not refused
abbrev pub callee_rules : List ℕ → Kind → List Rule
callee_rules entries Step = []
callee_rules entries (Call target) = unless (is_callee entries target) Rule.Callee
callee_rules entries Outside = []
callee_rules entries Return = []
callee_rules entries (End reason) = []

-- what a site breaks at an instruction where its kind may stand, its own rules first, then its vertices
abbrev pub fitting_breaks : Image → List ℕ → Function → Site → Instr → List Broken
fitting_breaks image entries f s i =
    map (broken f.entry s.addr 0 0)
    (callee_rules entries s.kind ++ unless (are_undecided (view_of image f s)) Rule.Decided)
    ++ flat_map (vertex_breaks image f s i) (enumerate_from 0 s.vertices)

-- what a site breaks at an instruction, or where there is none: where its kind may not stand, that rule alone, since the
-- others ask for an instruction of its class
abbrev pub breaks_at : Image → List ℕ → Function → Site → Option Instr → List Broken
breaks_at image entries f s None = broken f.entry s.addr 0 0 Rule.Kind ∷ []
breaks_at image entries f s (Some i) =
    if fits s.kind (class_of i.op) then fitting_breaks image entries f s i
    else broken f.entry s.addr 0 0 Rule.Kind ∷ []

-- what a site of a kind breaks; an end breaks nothing
abbrev pub breaks_of_kind : Kind → Image → List ℕ → Function → Site → Option Instr → List Broken
breaks_of_kind Step image entries f s i = breaks_at image entries f s i
breaks_of_kind (Call target) image entries f s i = breaks_at image entries f s i
breaks_of_kind Outside image entries f s i = breaks_at image entries f s i
breaks_of_kind Return image entries f s i = breaks_at image entries f s i
breaks_of_kind (End reason) image entries f s i = []

-- what a site breaks, by a look-up of instructions
abbrev pub site_breaks : Image → (ℕ → Option Instr) → List ℕ → Function → Site → List Broken
site_breaks image look_up entries f s = breaks_of_kind s.kind image entries f s (look_up s.addr)

-- ---- a function and a graph

-- the rule of a function that is broken
abbrev pub entry_rules : Function → List Rule
entry_rules f = unless (begins_unless_refused f.refused (vertex_at f (f.entry, 0))) Rule.Entry

-- what a function breaks, its own rule first, which names the entry as its site, then its sites
abbrev pub function_breaks : Image → (ℕ → Option Instr) → List ℕ → Function → List Broken
function_breaks image look_up entries f =
    map (broken f.entry f.entry 0 0) (entry_rules f) ++ flat_map (site_breaks image look_up entries f) f.sites

-- what a graph breaks, function by function
abbrev pub breaks_of : Image → (ℕ → Option Instr) → Graph → List Broken
breaks_of image look_up g = flat_map (function_breaks image look_up (entries_of g)) g.functions

-- the first break is the verdict
abbrev pub verdict_from : Option Broken → Verdict
verdict_from (Some break) = Invalid break
verdict_from None = Valid

-- the verdict on a graph against an executable
pub record IsVerdict (image : Image) (g : Graph) (verdict : Verdict) : Type 0 where
  pub look_up : ℕ → Option Instr
  pub found : IsLookup image look_up
  pub verdict_is : verdict ≡ verdict_from (first (breaks_of image look_up g))

-- the verdict on a function, where the functions with these entries are not refused
pub record IsFunctionVerdict (image : Image) (entries : List ℕ) (f : Function) (verdict : Verdict) : Type 0 where
  pub look_up : ℕ → Option Instr
  pub found : IsLookup image look_up
  pub verdict_is : verdict ≡ verdict_from (first (function_breaks image look_up entries f))
