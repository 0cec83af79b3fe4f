-- Which kind a site is.
use Rattle.std.specs.Prelude.{ℕ, ◌==◌, Bool, true, false, ◌&&◌, not, if◌then◌else◌, List, [], ◌∷◌, map, Option, Some, None}
use Rattle.std.specs.List.{list_all}
use Rattle.elf_image.specs.declared.image.Image.{Image}
use Rattle.elf_image.specs.Image.{is_code_at}
use Rattle.predicates.specs.Predicate.{Predicate}
use Rattle.predicates.specs.declared.site.Reason.TheVariants as reason
use Rattle.predicates.specs.declared.site.Kind.{Kind}
use Rattle.predicates.specs.declared.site.Kind.TheVariants.{Step, Call, Outside, Return, End}
use Rattle.x86_instr.specs.declared.class.Class.{Class}
use Rattle.x86_instr.specs.declared.class.Class.TheVariants as class
use Rattle.x86_instr.specs.declared.instr.Instr.{Instr}
use Rattle.x86_instr.specs.Classes.{class_of}
use Rattle.instr_at.specs.At.{instr_at}
use Rattle.step_rules.specs.View.{View}
use Rattle.step_rules.specs.Calls.{call_target}
use Rattle.pred_step.specs.Restored.{are_restored}
use Rattle.site_lines.specs.Subject.{Subject, bare, is_listed, is_shut}

-- what the step rules know of a site without lines
abbrev pub bare_view : Image → View
bare_view image = record { known = bare image; fork = None; keeps = [] }

-- whether both are the same address
abbrev pub is_same_target : Option ℕ → Option ℕ → Bool
is_same_target None u = false
is_same_target (Some a) None = false
is_same_target (Some a) (Some b) = b == a

-- the address that is each of these; None where there is no such one
abbrev pub common : List (Option ℕ) → Option ℕ
common [] = None
common (t ∷ ts) = if list_all (is_same_target t) ts then t else None

-- the constant to which a call leads in every vertex
abbrev pub common_target : Image → Instr → List Predicate → Option ℕ
common_target image i preds = common (map (call_target (bare_view image) i) preds)

-- whether a function is lifted at an address: it is code, and not outside
abbrev pub is_inside : Subject → ℕ → Bool
is_inside s address = is_code_at s.image address && not (is_listed address s.externs)

-- a call, by the constant to which it leads
abbrev pub call_kind : Subject → Option ℕ → Kind
call_kind s None = Outside
call_kind s (Some target) = if is_inside s target then Call target else Outside

-- an instruction, by its class
abbrev pub kind_by : Class → Subject → ℕ → Instr → List Predicate → Kind
kind_by class.Calculation s address i preds = Step
kind_by class.Transfer s address i preds = Step
kind_by class.Division s address i preds = Step
kind_by class.Jump s address i preds = if is_shut s address i then End reason.Unresolved else Step
kind_by class.Call s address i preds = call_kind s (common_target s.image i preds)
kind_by class.Return s address i preds = if list_all are_restored preds then Return else End reason.BadReturn
kind_by class.SystemCall s address i preds = Outside
kind_by class.Stop s address i preds = End reason.Stop

-- what stands at an address, if it is an instruction
abbrev pub kind_here : Subject → ℕ → Option Instr → List Predicate → Kind
kind_here s address None preds = End reason.Unsupported
kind_here s address (Some i) preds = kind_by (class_of i.op) s address i preds

-- an address that is outside, or what stands there
abbrev pub kind_at : Subject → ℕ → Option Instr → List Predicate → Kind
kind_at s address i preds = if is_listed address s.externs then End reason.Extern else kind_here s address i preds

-- whether an operation of the class jumps
abbrev pub is_jump : Class → Bool
is_jump class.Calculation = false
is_jump class.Transfer = false
is_jump class.Division = false
is_jump class.Jump = true
is_jump class.Call = false
is_jump class.Return = false
is_jump class.SystemCall = false
is_jump class.Stop = false

-- whether a shut jump stands at an address, which isn't outside
abbrev pub is_shut_here : Subject → ℕ → Option Instr → Bool
is_shut_here s address None = false
is_shut_here s address (Some i) = is_jump (class_of i.op) && is_shut s address i

-- whether a shut jump stands at an address
abbrev pub is_shut_at : Subject → ℕ → Bool
is_shut_at s address = not (is_listed address s.externs) && is_shut_here s address (instr_at s.image address)
