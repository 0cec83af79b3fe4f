-- There is no break exactly where each rule of the theorem holds, and the verdict tells it.
use Rattle.std.proofs.Common.{◌≡◌, ◌↔◌, ℕ, true, false, List, [], ◌++◌, map, Some, None, Option, refl, sym, ◌∙◌, ap, subst}
use Rattle.std.specs.Prelude.{is_some, IsSomeAnd}
use Rattle.std.specs.List.{flat_map}
use Rattle.simulation.specs.Graph.{vertex_at as world_vertex}
use Rattle.simulation.specs.Valid.{SiteHolds}
use Rattle.elf_image.specs.declared.image.Image.{Image}
use Rattle.predicates.specs.Entry.{entry_predicate}
use Rattle.graph_data.specs.declared.graph.Vertex.{Vertex}
use Rattle.graph_data.specs.declared.graph.Refused.{Refused}
use Rattle.graph_data.specs.declared.graph.Function.{Function}
use Rattle.graph_data.specs.declared.graph.Graph.{Graph}
use Rattle.graph_data.specs.Parts.{Each}
use Rattle.graph_data.specs.WellFormed.{IsPred, IsSite, IsFunction, HasBody, IsWellFormed}
use Rattle.graph_verdict.specs.declared.verdict.Rule.{Rule}
use Rattle.graph_verdict.specs.declared.verdict.Broken.{Broken}
use Rattle.graph_verdict.specs.declared.verdict.Verdict.{Verdict}
use Rattle.graph_verdict.specs.declared.verdict.Verdict.TheVariants as verdict
use Rattle.instr_at.specs.At.{instr_at, InstrAtLaw, OneLookupLaw}
use Rattle.graph_runs.specs.World.{x86}
use Rattle.graph_rules.specs.Rules.{rules}
use Rattle.edge_checker.specs.Decisions.{begins, begins_unless_refused, entries_of}
use Rattle.edge_checker.specs.Breaks.{vertex_at, first, unless, broken, site_breaks, function_breaks, breaks_of, verdict_from, IsVerdict, IsFunctionVerdict}
use Rattle.edge_checker.specs.Laws.{IsValid, HoldsIn, OneVerdictLaw, ValidLaw, FunctionLaw, NoBreakLaw}
use Rattle.edge_checker.proofs.EmptyLemmas.{rule_then, first-None, each-empty}
use Rattle.edge_checker.proofs.FormLemmas.{sites_formed, named_formed}
use Rattle.edge_checker.proofs.EntryLemmas.{is_entry-Decides}
use Rattle.edge_checker.proofs.SiteLemmas.{site-empty}

-- ---- a function

begins-exactly : (o : Option Vertex) → ((v : Vertex) → o ≡ Some v → IsPred v.pred) → (begins o ≡ true) ↔ IsSomeAnd o (λ v. v.pred ≡ entry_predicate)
begins-exactly None formed = (λ e. absurd (cc), λ found. absurd found)
begins-exactly (Some v) formed = is_entry-Decides v.pred (formed v refl).formed.sixteen

entry-exactly : (image : Image) (f : Function) → Each IsSite f.sites → (begins (vertex_at f (f.entry, 0)) ≡ true) ↔ IsSomeAnd (world_vertex (x86 image) f f.entry 0) (λ v. v.pred ≡ entry_predicate)
entry-exactly image f sites =
    begins-exactly (vertex_at f (f.entry, 0)) (λ v e. named_formed f (f.entry, 0) v sites e)

-- what the sites of a function break
abbrev sites_break : Image → Graph → Function → List Broken
sites_break image g f = flat_map (site_breaks image (instr_at image) (entries_of g) f) f.sites

verdict-Valid : (break : Option Broken) → (verdict_from break ≡ verdict.Valid) ↔ (break ≡ None)
verdict-Valid None = (λ e. refl, λ e. refl)
verdict-Valid (Some break) = (λ e. absurd (cc), λ e. absurd (cc))

module _ (found : InstrAtLaw) (image : Image) (g : Graph) (well : IsWellFormed g) where
  function_by : (f : Function) (why : Option Refused) → IsFunction f → f.refused ≡ why →
      (map (broken f.entry f.entry 0 0) (unless (begins_unless_refused why (vertex_at f (f.entry, 0))) Rule.Entry) ++ sites_break image g f ≡ []) ↔ HoldsIn image g f
  function_by f None formed is =
      let all = sites_formed f formed in
      let parts = rule_then (broken f.entry f.entry 0 0) (begins (vertex_at f (f.entry, 0))) Rule.Entry (sites_break image g f) in
      let entry = entry-exactly image f all in
      let sites = each-empty IsSite (SiteHolds (x86 image) (rules image) g f) (site_breaks image (instr_at image) (entries_of g) f) (λ s k. site-empty found image g well f all s k) f.sites all in
      let open_one : is_some f.refused ≡ false = ap is_some is in (
        λ e unrefused. record { entry = entry.0 (parts.0 e).0; sites = sites.0 (parts.0 e).1 },
        λ holds. let h = holds open_one in parts.1 (entry.1 h.entry, sites.1 h.sites),
      )
  function_by f (Some why) formed is =
      let body : HasBody (Some why) f = subst (λ o. HasBody o f) is formed.body in
      let none_there : sites_break image g f ≡ [] = ap (flat_map (site_breaks image (instr_at image) (entries_of g) f)) body.sites in
      let refused : is_some f.refused ≡ true = ap is_some is in
      (λ e unrefused. absurd (cc (refused, unrefused)), λ holds. none_there)

  -- a function breaks nothing exactly where each rule holds of it
  function-empty : (f : Function) → IsFunction f → (function_breaks image (instr_at image) (entries_of g) f ≡ []) ↔ HoldsIn image g f
  function-empty f formed = function_by f f.refused formed refl

  -- there is no break exactly where each rule holds
  none_exactly : (breaks_of image (instr_at image) g ≡ []) ↔ IsValid image g
  none_exactly = each-empty IsFunction (HoldsIn image g) (function_breaks image (instr_at image) (entries_of g)) function-empty g.functions well.functions

  pub valid_exactly : (verdict_from (first (breaks_of image (instr_at image) g)) ≡ verdict.Valid) ↔ IsValid image g
  valid_exactly =
      let none_there = verdict-Valid (first (breaks_of image (instr_at image) g)) in
      let breaks = first-None (breaks_of image (instr_at image) g) in
      (λ e. none_exactly.0 (breaks.0 (none_there.0 e)), λ h. none_there.1 (breaks.1 (none_exactly.1 h)))

  pub function_exactly : (f : Function) → IsFunction f → (verdict_from (first (function_breaks image (instr_at image) (entries_of g) f)) ≡ verdict.Valid) ↔ HoldsIn image g f
  function_exactly f formed =
      let none_there = verdict-Valid (first (function_breaks image (instr_at image) (entries_of g) f)) in
      let breaks = first-None (function_breaks image (instr_at image) (entries_of g) f) in
      let holds = function-empty f formed in
      (λ e. holds.0 (breaks.0 (none_there.0 e)), λ h. none_there.1 (breaks.1 (holds.1 h)))

-- ---- the verdict

pub no_break_exactly : InstrAtLaw → NoBreakLaw
no_break_exactly found image g well = none_exactly found image g well

module _ (found : InstrAtLaw) (one : OneLookupLaw) where
  taken : (image : Image) (g : Graph) (v : Verdict) → IsVerdict image g v → v ≡ verdict_from (first (breaks_of image (instr_at image) g))
  taken image g v h =
      h.verdict_is ∙ ap (λ look_up. verdict_from (first (breaks_of image look_up g))) (one image h.look_up (instr_at image) h.found (found image))

  taken_of : (image : Image) (entries : List ℕ) (f : Function) (v : Verdict) → IsFunctionVerdict image entries f v → v ≡ verdict_from (first (function_breaks image (instr_at image) entries f))
  taken_of image entries f v h =
      h.verdict_is ∙ ap (λ look_up. verdict_from (first (function_breaks image look_up entries f))) (one image h.look_up (instr_at image) h.found (found image))

  pub one_verdict : OneVerdictLaw
  one_verdict image g first second is other = taken image g first is ∙ sym (taken image g second other)

  pub valid_verdict : ValidLaw
  valid_verdict image g well =
      let valid = valid_exactly found image g well in (
        λ h. valid.0 (sym (taken image g verdict.Valid h)),
        λ holds. record { look_up = instr_at image; found = found image; verdict_is = sym (valid.1 holds) },
      )

  pub function_verdict : FunctionLaw
  function_verdict image entries f g formed well same =
      let valid = subst (λ es. (verdict_from (first (function_breaks image (instr_at image) es f)) ≡ verdict.Valid) ↔ HoldsIn image g f) same (function_exactly found image g well f formed) in (
        λ h. valid.0 (sym (taken_of image entries f verdict.Valid h)),
        λ holds. record { look_up = instr_at image; found = found image; verdict_is = sym (valid.1 holds) },
      )
