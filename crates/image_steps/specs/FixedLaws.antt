-- Where no jump is open the addresses of the cases at an address don't depend on what is known.
use Rattle.std.proofs.Common.{◌≡◌, ◌⊎◌, ℕ, Bool, true, false, not, ◌&&◌, List, [], ◌∷◌, map, Option, Some, None, refl, ap, ◌∙◌, inl, inr}
use Rattle.std.specs.Prelude.{if◌then◌else◌}
use Rattle.std.specs.Option.{option_map}
use Rattle.std.proofs.lemmas.Bool.{cases_Bool}
use Rattle.elf_image.specs.declared.image.Image.{Image}
use Rattle.predicates.specs.Predicate.{Predicate}
use Rattle.predicates.specs.Kinds.{has_edges}
use Rattle.predicates.specs.declared.site.Reason.TheVariants as reason
use Rattle.predicates.specs.declared.site.Kind.{Kind}
use Rattle.predicates.specs.declared.site.Kind.TheVariants.{Step, Call, Outside, Return, End}
use Rattle.x86_instr.specs.declared.class.Class.{Class}
use Rattle.x86_instr.specs.declared.class.Class.TheVariants as class
use Rattle.x86_instr.specs.declared.instr.Op.{Op}
use Rattle.x86_instr.specs.declared.instr.Op.TheVariants as op
use Rattle.x86_instr.specs.declared.instr.Operand.{Operand}
use Rattle.x86_instr.specs.declared.instr.Operand.TheVariants as operand
use Rattle.x86_instr.specs.declared.instr.Instr.{Instr}
use Rattle.x86_instr.specs.Classes.{class_of}
use Rattle.x86_instr.specs.Groups.{Controls, Branching, Jumping, group_of}
use Rattle.instr_at.specs.At.{instr_at}
use Rattle.step_rules.specs.View.{View}
use Rattle.step_rules.specs.Drop.{dropped}
use Rattle.step_rules.specs.Cases as step
use Rattle.step_rules.specs.Cases.{branches, case, cases_by, direct, goes_on, jumps, jump_cases_in}
use Rattle.lift_rounds.specs.Known.{addresses}
use Rattle.lift_rounds.specs.Fixed.{IsFixedAt}
use Rattle.site_lines.specs.declared.lines.Lines.{Lines}
use Rattle.site_lines.specs.Subject.{Subject, is_indirect, is_listed}
use Rattle.site_lines.specs.Kinds.{bare_view, call_kind, common_target, is_inside, kind_at, kind_by}
use Rattle.site_lines.specs.Lines.{cases_here, kind_alone, lines_by, lines_here, view_with, with_pairs, with_saved}
use Rattle.image_steps.specs.Shaped.{nothing}
use Rattle.image_steps.specs.Meant.{case_of, known_among, meaning_of}

-- the addresses of cases, where there are some
abbrev places : Option (List step.Case) → Option (List ℕ)
places o = option_map addresses (option_map (map case_of) o)

-- where an instruction goes on, whatever is known
abbrev onward : Image → Instr → List ℕ
onward image i = map (λ (c : step.Case). c.address) (goes_on (bare_view image) i nothing None)

-- where a conditional jump leads, whatever is known
abbrev branched : Image → Instr → List ℕ
branched image i = map (λ (c : step.Case). c.address) (branches (bare_view image) i nothing)

-- whatever is known, there are cases, and these are their addresses
abbrev AreAt : (List Predicate → Predicate → Option (List step.Case)) → List ℕ → Type 0
AreAt f targets = (ps : List Predicate) (p : Predicate) → places (f ps p) ≡ Some targets

-- the cases of an instruction of a class at lines
abbrev at_lines : Class → Image → Instr → Predicate → Lines → Option (List step.Case)
at_lines c image i p lines = if has_edges lines.kind then cases_by c (view_with image lines) i p else Some []

-- the same at the lines of a kind
abbrev cases_of : Class → Image → Kind → Instr → List Predicate → Predicate → Option (List step.Case)
cases_of c image kind i ps p = at_lines c image i p (lines_by image kind i ps)

-- a kind without edges has no lines beside it, and no cases
bare_lines : (image : Image) (kind : Kind) (i : Instr) (ps : List Predicate) → has_edges kind ≡ false → lines_by image kind i ps ≡ kind_alone kind
bare_lines image kind i ps e = rw e refl

edgeless : (c : Class) (image : Image) (kind : Kind) (i : Instr) (ps : List Predicate) (p : Predicate) → has_edges kind ≡ false → places (cases_of c image kind i ps p) ≡ Some []
edgeless c image kind i ps p e =
    let same : places (at_lines c image i p (kind_alone kind)) ≡ Some [] = rw e refl in
    ap (λ l. places (at_lines c image i p l)) (bare_lines image kind i ps e) ∙ same

-- ---- jumps

-- a jump is conditional, or goes to its operand
jump_group : (o : Op) → class_of o ≡ class.Jump → (group_of o ≡ Controls Branching) ⊎ (group_of o ≡ Controls Jumping)
jump_group op.Jcc e = inl refl
jump_group op.Jmp e = inr refl
jump_group o e = absurd (let f : ⊥ = cc in f)

-- a jump to its immediate operand
jump_direct : (v : View) (i : Instr) (p : Predicate) (o : Operand) → is_indirect o ≡ false → jumps v i p o ≡ Some (case (direct o) p ∷ [])
jump_direct v i p operand.None e = absurd (let f : ⊥ = cc in f)
jump_direct v i p (operand.Reg r) e = absurd (let f : ⊥ = cc in f)
jump_direct v i p (operand.High r) e = absurd (let f : ⊥ = cc in f)
jump_direct v i p (operand.Imm n) e = refl
jump_direct v i p (operand.Mem pl) e = absurd (let f : ⊥ = cc in f)

-- the addresses of a jump that isn't indirect, by its group
direct_places : (image : Image) (i : Instr) → is_indirect i.dst ≡ false → (group_of i.op ≡ Controls Branching) ⊎ (group_of i.op ≡ Controls Jumping) → (targets : List ℕ) × ((v : View) (p : Predicate) → places (jump_cases_in (group_of i.op) v i p) ≡ Some targets)
direct_places image i e (inl g) = (branched image i, λ v p. ap (λ x. places (jump_cases_in x v i p)) g)
direct_places image i e (inr g) = (direct i.dst ∷ [], λ v p. ap (λ x. places (jump_cases_in x v i p)) g ∙ ap places (jump_direct v i p i.dst e))

-- with no open jump each indirect one is shut
shut_kind : (s : Subject) (address : ℕ) (i : Instr) (ps : List Predicate) → s.opened ≡ [] → is_indirect i.dst ≡ true → kind_by class.Jump s address i ps ≡ End reason.Unresolved
shut_kind s address i ps h e = ap (λ os. if is_indirect i.dst && not (is_listed address os) then End reason.Unresolved else Step) h ∙ ap (λ b. if b && true then End reason.Unresolved else Step) e

open_kind : (s : Subject) (address : ℕ) (i : Instr) (ps : List Predicate) → is_indirect i.dst ≡ false → kind_by class.Jump s address i ps ≡ Step
open_kind s address i ps e = rw e refl

jump_places : (s : Subject) (address : ℕ) (i : Instr) → s.opened ≡ [] → class_of i.op ≡ class.Jump → (targets : List ℕ) × AreAt (λ ps p. cases_of class.Jump s.image (kind_by class.Jump s address i ps) i ps p) targets
jump_places s address i h c = elim (cases_Bool (is_indirect i.dst)) as (λ _. (targets : List ℕ) × AreAt (λ ps p. cases_of class.Jump s.image (kind_by class.Jump s address i ps) i ps p) targets) [
  | inl e ↦ ([], λ ps p. ap (λ k. places (cases_of class.Jump s.image k i ps p)) (shut_kind s address i ps h e))
  | inr e ↦
      let found = direct_places s.image i e (jump_group i.op c) in
      (found.0, λ ps p. ap (λ k. places (cases_of class.Jump s.image k i ps p)) (open_kind s address i ps e) ∙ found.1 (view_with s.image (lines_by s.image Step i ps)) (dropped i p))
]

-- ---- every instruction

-- a call goes on, whatever it calls
call_edges : (s : Subject) (t : Option ℕ) → has_edges (call_kind s t) ≡ true
call_edges s None = refl
call_edges s (Some target) = elim (is_inside s target) as (λ b. has_edges (if b then Call target else Outside) ≡ true) [ true ↦ refl | false ↦ refl ]

full_lines : (image : Image) (kind : Kind) (i : Instr) (ps : List Predicate) → has_edges kind ≡ true → lines_by image kind i ps ≡ with_saved image (with_pairs image kind i ps) i ps
full_lines image kind i ps e = rw e refl

call_places : (image : Image) (kind : Kind) (i : Instr) (ps : List Predicate) (p : Predicate) → has_edges kind ≡ true → places (cases_of class.Call image kind i ps p) ≡ Some (onward image i)
call_places image kind i ps p e =
    let lines = with_saved image (with_pairs image kind i ps) i ps in
    let same : places (at_lines class.Call image i p lines) ≡ Some (onward image i) = rw e refl in
    ap (λ l. places (at_lines class.Call image i p l)) (full_lines image kind i ps e) ∙ same

-- after a return nothing goes on
return_edges : (b : Bool) → has_edges (if b then Return else End reason.BadReturn) ≡ false
return_edges true = refl
return_edges false = refl

return_places : (s : Subject) (address : ℕ) (i : Instr) (ps : List Predicate) → has_edges (kind_by class.Return s address i ps) ≡ false
return_places s address i ps = return_edges _

by_class : (c : Class) (s : Subject) (address : ℕ) (i : Instr) → s.opened ≡ [] → class_of i.op ≡ c → (targets : List ℕ) × AreAt (λ ps p. cases_of c s.image (kind_by c s address i ps) i ps p) targets
by_class class.Calculation s address i h e = (onward s.image i, λ ps p. refl)
by_class class.Transfer s address i h e = (onward s.image i, λ ps p. refl)
by_class class.Division s address i h e = (onward s.image i, λ ps p. refl)
by_class class.Jump s address i h e = jump_places s address i h e
by_class class.Call s address i h e = (onward s.image i, λ ps p. call_places s.image (call_kind s (common_target s.image i ps)) i ps p (call_edges s (common_target s.image i ps)))
by_class class.Return s address i h e = ([], λ ps p. edgeless class.Return s.image (kind_by class.Return s address i ps) i ps p (return_places s address i ps))
by_class class.SystemCall s address i h e = (onward s.image i, λ ps p. refl)
by_class class.Stop s address i h e = ([], λ ps p. refl)

-- ---- at an address

-- the cases at an address where this stands, or nothing
abbrev cases_by_instr : Subject → ℕ → Option Instr → List Predicate → Predicate → Option (List step.Case)
cases_by_instr s address i ps p = cases_here s.image (lines_here s.image (kind_at s address i ps) i ps) i p

some_places : (s : Subject) (address : ℕ) (i : Instr) → s.opened ≡ [] → (targets : List ℕ) × AreAt (cases_by_instr s address (Some i)) targets
some_places s address i h =
    elim (is_listed address s.externs) as (λ b. (targets : List ℕ) × AreAt (λ ps p. cases_of (class_of i.op) s.image (if b then End reason.Extern else kind_by (class_of i.op) s address i ps) i ps p) targets) [
      | true ↦ ([], λ ps p. refl)
      | false ↦ by_class (class_of i.op) s address i h refl
    ]

instr_places : (s : Subject) (address : ℕ) (i : Option Instr) → s.opened ≡ [] → (targets : List ℕ) × AreAt (cases_by_instr s address i) targets
instr_places s address None h = ([], λ ps p. refl)
instr_places s address (Some i) h = some_places s address i h

pub fixed_at : (s : Subject) → s.opened ≡ [] → (address : ℕ) → IsFixedAt (meaning_of s) address
fixed_at s h address =
    let found = instr_places s address (instr_at s.image address) h in
    (found.0, λ site p. found.1 (known_among site) p)
