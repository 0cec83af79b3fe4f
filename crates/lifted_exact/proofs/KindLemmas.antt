-- As many edges as the kind of a site has.
use Rattle.std.proofs.Common.{◌≡◌, ℕ, Bool, true, false, not, List, [], map, length, Option, Some, None, refl, sym, ap, ◌∙◌, subst, arith, le-leb, eq-eqb, true≢false}
use Rattle.std.specs.Prelude.{if◌then◌else◌, nat_le}
use Rattle.std.specs.List.{list_all}
use Rattle.std.specs.Option.{option_map}
use Rattle.std.proofs.lemmas.Bool.{and_from}
use Rattle.elf_image.specs.declared.image.Image.{Image}
use Rattle.sym_terms.specs.Mentions.{mentions}
use Rattle.predicates.specs.Predicate.{Predicate}
use Rattle.predicates.specs.Kinds.{has_edges}
use Rattle.predicates.specs.declared.site.Kind.{Kind}
use Rattle.predicates.specs.declared.site.Kind.TheVariants.{Return, End}
use Rattle.predicates.specs.declared.site.Reason.TheVariants as reason
use Rattle.predicates.specs.declared.bound.Bound.{Bound}
use Rattle.graph_data.specs.Limits.{most_edges}
use Rattle.graph_data.specs.WellFormed.{edges_fit}
use Rattle.x86_instr.specs.declared.class.Class.{Class}
use Rattle.x86_instr.specs.declared.class.Class.TheVariants as class
use Rattle.x86_instr.specs.declared.instr.Instr.{Instr}
use Rattle.x86_instr.specs.Classes.{class_of}
use Rattle.pred_step.specs.Restored.{are_restored}
use Rattle.step_rules.specs.Names.{name}
use Rattle.step_rules.specs.Drop.{dropped}
use Rattle.step_rules.specs.Cases as step
use Rattle.step_rules.specs.Cases.{cases}
use Rattle.lift_rounds.specs.declared.data.Case.{Case}
use Rattle.image_steps.specs.Meant.{case_of as round_case}
use Rattle.site_lines.specs.declared.lines.Lines.{Lines}
use Rattle.site_lines.specs.Subject.{Subject, is_listed}
use Rattle.site_lines.specs.Kinds.{kind_at, kind_by}
use Rattle.site_lines.specs.Lines.{kind_alone, view_with, with_pairs, with_saved, lines_here, cases_here}
use Rattle.lifted_parts.specs.Rest.{HasForm}
use Rattle.lifted_exact.proofs.CaseLemmas.{long_map}
use Rattle.lifted_exact.proofs.CountLemmas.{AreFew, AreCounted, bounds_counted, filter_counted}
use Rattle.lifted_exact.proofs.JumpLemmas.{ends, class_few}

-- ---- kinds

pub line_kind : (image : Image) (kind : Kind) (i : Option Instr) (preds : List Predicate) → (lines_here image kind i preds).kind ≡ kind
line_kind image kind None preds = refl
line_kind image kind (Some i) preds = elim (has_edges kind) as (λ b. (if b then with_saved image (with_pairs image kind i preds) i preds else kind_alone kind).kind ≡ kind) [ true ↦ refl | false ↦ refl ]

returned : (b : Bool) → has_edges (if b then Return else End reason.BadReturn) ≡ true → ⊥
returned true h = true≢false (sym h)
returned false h = true≢false (sym h)

class_goes : (c : Class) (s : Subject) (a : ℕ) (i : Instr) (preds : List Predicate) → has_edges (kind_by c s a i preds) ≡ true → ends c ≡ false
class_goes class.Calculation s a i preds h = refl
class_goes class.Transfer s a i preds h = refl
class_goes class.Division s a i preds h = refl
class_goes class.Jump s a i preds h = refl
class_goes class.Call s a i preds h = refl
class_goes class.Return s a i preds h = absurd (returned (list_all are_restored preds) h)
class_goes class.SystemCall s a i preds h = refl
class_goes class.Stop s a i preds h = absurd (true≢false (sym h))

-- an instruction with edges goes on
goes : (s : Subject) (a : ℕ) (i : Instr) (preds : List Predicate) → has_edges (kind_at s a (Some i) preds) ≡ true → ends (class_of i.op) ≡ false
goes s a i preds h =
    elim (is_listed a s.externs) as (λ b. has_edges (if b then End reason.Extern else kind_by (class_of i.op) s a i preds) ≡ true → ends (class_of i.op) ≡ false) [
      | true ↦ λ k. absurd (true≢false (sym k))
      | false ↦ λ k. class_goes (class_of i.op) s a i preds k
    ] h

-- where none stands there is no edge
no_edges : (s : Subject) (a : ℕ) (preds : List Predicate) → has_edges (kind_at s a None preds) ≡ false
no_edges s a preds = elim (is_listed a s.externs) as (λ b. has_edges (if b then End reason.Extern else End reason.Unsupported) ≡ false) [ true ↦ refl | false ↦ refl ]

-- ---- edges

pub some_fit : {X : Type 0} (kind : Kind) (out : List (ℕ × ℕ)) (made : List X) → has_edges kind ≡ true → length out ≡ length made → AreFew made → edges_fit kind out ≡ true
some_fit kind out made e long few =
    let a = few.0 in
    let b = few.1 in
    rw e (and_from (nat_le 1 (length out)) (nat_le (length out) most_edges) (le-leb 1 (length out) (omega (arith, long, a))) (le-leb (length out) most_edges (omega (arith, long, b))))

none_fit : (kind : Kind) (out : List (ℕ × ℕ)) (made : List (Case Predicate)) → has_edges kind ≡ false → length out ≡ length made → Some [] ≡ Some made → edges_fit kind out ≡ true
none_fit kind out made e long h =
    let s : [] ≡ made = cc in
    let none : 0 ≡ length made = ap (λ (xs : List (Case Predicate)). length xs) s in
    rw e (eq-eqb (length out) 0 (omega (arith, long, none)))

form_counted : (i : Instr) (p : Predicate) → HasForm p → AreCounted (dropped i p).bounds
form_counted i p h = filter_counted (λ (b : Bound). not (mentions (name i) b.key)) p.bounds (bounds_counted p.bounds h.formed.bounded)

few_made : (cs : Option (List step.Case)) (made : List (Case Predicate)) → ((xs : List step.Case) → cs ≡ Some xs → AreFew xs) → option_map (map round_case) cs ≡ Some made → AreFew made
few_made None made h e = absurd (let f : ⊥ = cc in f)
few_made (Some xs) made h e =
    let s : map round_case xs ≡ made = cc in
    let few = h xs refl in
    let a = few.0 in
    let b = few.1 in
    let long = long_map round_case xs in
    subst (λ (ys : List (Case Predicate)). AreFew ys) s (omega (arith, long, a), omega (arith, long, b))

-- the edges of a vertex, which are as many as its cases
pub made_fit : (s : Subject) (a : ℕ) (preds : List Predicate) (lines : Lines) (i : Option Instr) (p : Predicate) (made : List (Case Predicate)) (out : List (ℕ × ℕ)) → lines.kind ≡ kind_at s a i preds → HasForm p → length out ≡ length made
    → option_map (map round_case) (cases_here s.image lines i p) ≡ Some made → edges_fit lines.kind out ≡ true
made_fit s a preds lines None p made out kind h long e = none_fit lines.kind out made (ap has_edges kind ∙ no_edges s a preds) long e
made_fit s a preds lines (Some i) p made out kind h long e =
    let view = view_with s.image lines in
    elim (has_edges lines.kind) as (λ b. has_edges lines.kind ≡ b → option_map (map round_case) (if b then cases view i p else Some []) ≡ Some made → edges_fit lines.kind out ≡ true) [
      | true ↦ λ k m.
          some_fit lines.kind out made k long
          (few_made (cases view i p) made (λ xs c. class_few (class_of i.op) view i p xs refl (goes s a i preds (sym (ap has_edges kind) ∙ k)) (form_counted i p h) c) m)
      | false ↦ λ k m. none_fit lines.kind out made k long m
    ] refl e
