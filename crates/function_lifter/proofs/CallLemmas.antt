-- The constants that are called, which are noted.
use Rattle.std.proofs.Common.{◌≡◌, ◌⊎◌, ℕ, true, false, cond, List, [], ◌∷◌, ◌++◌, Some, None, Option, refl, sym, ap, ◌∙◌, subst, inl, inr}
use Rattle.std.specs.List.{Contains}
use Rattle.std.proofs.lemmas.List.Elements.{Contains-append_left, Contains-push, Contains-push_cases}
use Rattle.elf_image.specs.declared.image.Image.{Image}
use Rattle.predicates.specs.Predicate.{Predicate}
use Rattle.predicates.specs.Kinds.{has_edges}
use Rattle.predicates.specs.declared.site.Kind.{Kind}
use Rattle.predicates.specs.declared.site.Kind.TheVariants.{Call}
use Rattle.x86_instr.specs.declared.instr.Instr.{Instr}
use Rattle.x86_instr.specs.Classes.{class_of}
use Rattle.instr_at.specs.At.{instr_at}
use Rattle.graph_data.specs.declared.graph.Site.{Site}
use Rattle.site_lines.specs.declared.lines.Lines.{Lines}
use Rattle.site_lines.specs.Subject.{Subject}
use Rattle.site_lines.specs.Kinds.{common_target, kind_at}
use Rattle.site_lines.specs.Lines.{lines_at, lines_here, kind_alone, with_saved, with_pairs}
use Rattle.lifted_rules.proofs.KindLemmas.{call_class, stands}
use Rattle.function_lifter.specs.Whole.{AreCalled, NotesTarget}

lines_kind : (image : Image) (k : Kind) (o : Option Instr) (preds : List Predicate) → (lines_here image k o preds).kind ≡ k
lines_kind image k None preds = refl
lines_kind image k (Some i) preds =
    elim (has_edges k) as (λ b. (cond b (with_saved image (with_pairs image k i preds) i preds) (kind_alone k)).kind ≡ k) [ true ↦ refl | false ↦ refl ]

-- a call leads to its constant in every vertex
called : (s : Subject) (a : ℕ) (preds : List Predicate) (i : Instr) (t : ℕ) → instr_at s.image a ≡ Some i → (lines_at s a preds).kind ≡ Call t → common_target s.image i preds ≡ Some t
called s a preds i t here e =
    let o = instr_at s.image a in
    let k : kind_at s a o preds ≡ Call t = sym (lines_kind s.image (kind_at s a o preds) o preds) ∙ e in
    let h = stands s a o preds (Call t) k refl in
    let found : Some h.0 ≡ Some i = sym h.1 ∙ here in
    let same : h.0 ≡ i = cc in
    subst (λ j. common_target s.image j preds ≡ Some t) same (call_class s a h.0 preds t (class_of h.0.op) h.2).1

-- a constant that is pushed is noted
pub noted : (s : Subject) (a : ℕ) (preds : List Predicate) (lines : Lines) (i : Instr) (target : ℕ) (old new : List ℕ) → lines ≡ lines_at s a preds → instr_at s.image a ≡ Some i
    → common_target s.image i preds ≡ Some target → new ≡ old ++ target ∷ [] → NotesTarget lines.kind old new
noted s a preds lines i target old new e here common more = (
  λ n h. subst (λ ns. Contains ns n) (sym more) (Contains-append_left old (target ∷ []) n h),
  λ t k.
      let leads = called s a preds i t here (ap {A = Lines} (λ x. x.kind) (sym e) ∙ k) in
      let both : Some target ≡ Some t = sym common ∙ leads in
      let same : target ≡ t = cc in
      subst (λ ns. Contains ns t) (sym more) (subst (λ x. Contains (old ++ target ∷ []) x) same (Contains-push old target)),
)

-- where there is no such constant, no call is known
pub none_noted : (s : Subject) (a : ℕ) (preds : List Predicate) (lines : Lines) (i : Instr) (old : List ℕ) → lines ≡ lines_at s a preds → instr_at s.image a ≡ Some i
    → ((t : ℕ) → common_target s.image i preds ≡ Some t → ⊥) → NotesTarget lines.kind old old
none_noted s a preds lines i old e here none = (
  λ n h. h,
  λ t k. absurd (none t (called s a preds i t here (ap {A = Lines} (λ x. x.kind) (sym e) ∙ k))),
)

-- what is called at one more site is noted too
pub called_more : (sites more : List Site) (site : Site) (old new : List ℕ) → more ≡ sites ++ site ∷ [] → AreCalled sites old → NotesTarget site.kind old new → AreCalled more new
called_more sites more site old new e before notes x t member k =
    elim (Contains-push_cases sites site x (subst (λ xs. Contains xs x) e member)) as (λ _. Contains new t) [
      | inl there ↦ notes.0 t (before x t there k)
      | inr here ↦ notes.1 t (subst (λ (y : Site). y.kind ≡ Call t) (sym here) k)
    ]
