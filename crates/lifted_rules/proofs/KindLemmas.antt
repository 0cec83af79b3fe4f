-- What the kind of a site says of the instruction there.
use Rattle.std.proofs.Common.{◌≡◌, ◌⊎◌, ℕ, Bool, true, false, cond, List, Some, None, Option, refl, sym, ap, ◌∙◌, subst, inl, inr}
use Rattle.std.specs.List.{list_all}
use Rattle.predicates.specs.Predicate.{Predicate}
use Rattle.predicates.specs.declared.site.Reason.TheVariants as reason
use Rattle.predicates.specs.declared.site.Kind.{Kind}
use Rattle.predicates.specs.declared.site.Kind.TheVariants.{Step, Call, Outside, Return, End}
use Rattle.x86_instr.specs.declared.class.Class.{Class}
use Rattle.x86_instr.specs.declared.class.Class.TheVariants as class
use Rattle.x86_instr.specs.declared.instr.Instr.{Instr}
use Rattle.x86_instr.specs.Classes.{class_of}
use Rattle.simulation.specs.World.{Ordinary, Returning}
use Rattle.graph_runs.specs.Classes.{class_by}
use Rattle.pred_step.specs.Restored.{are_restored}
use Rattle.site_lines.specs.Subject.{Subject, is_listed, is_shut}
use Rattle.site_lines.specs.Kinds.{kind_at, kind_here, kind_by, call_kind, is_inside, common_target}

-- whether nothing is claimed of an instruction
abbrev pub is_end : Kind → Bool
is_end Step = false
is_end (Call t) = false
is_end Outside = false
is_end Return = false
is_end (End r) = true

ended : (j k : Kind) → j ≡ k → is_end j ≡ true → is_end k ≡ false → ⊥
ended j k e p q = let f : true ≡ false = sym p ∙ ap is_end e ∙ q in let z : ⊥ = cc in z

-- an instruction of the kind
abbrev pub HasInstr : Subject → ℕ → Option Instr → List Predicate → Kind → Type 0
HasInstr s a o preds k = (i : Instr) × (o ≡ Some i) × (kind_by (class_of i.op) s a i preds ≡ k)

there : (s : Subject) (a : ℕ) (o : Option Instr) (preds : List Predicate) (k : Kind) → kind_here s a o preds ≡ k → is_end k ≡ false → HasInstr s a o preds k
there s a None preds k e h = absurd (ended (End reason.Unsupported) k e refl h)
there s a (Some i) preds k e h = (i, refl, e)

-- where something is claimed an instruction stands
pub stands : (s : Subject) (a : ℕ) (o : Option Instr) (preds : List Predicate) (k : Kind) → kind_at s a o preds ≡ k → is_end k ≡ false → HasInstr s a o preds k
stands s a o preds k e h =
    elim (is_listed a s.externs) as (λ t. cond t (End reason.Extern) (kind_here s a o preds) ≡ k → HasInstr s a o preds k) [
      | true ↦ λ f. absurd (ended (End reason.Extern) k f refl h)
      | false ↦ λ f. there s a o preds k f h
    ] e

call_no_step : (s : Subject) (o : Option ℕ) → call_kind s o ≡ Step → ⊥
call_no_step s None e = let z : ⊥ = cc in z
call_no_step s (Some t) e = elim (is_inside s t) as (λ b. cond b (Call t) Outside ≡ Step → ⊥) [ true ↦ λ f. let z : ⊥ = cc in z | false ↦ λ f. let z : ⊥ = cc in z ] e

call_no_return : (s : Subject) (o : Option ℕ) → call_kind s o ≡ Return → ⊥
call_no_return s None e = let z : ⊥ = cc in z
call_no_return s (Some t) e = elim (is_inside s t) as (λ b. cond b (Call t) Outside ≡ Return → ⊥) [ true ↦ λ f. let z : ⊥ = cc in z | false ↦ λ f. let z : ⊥ = cc in z ] e

-- the constant to which a call leads, which is inside
pub call_leads : (s : Subject) (o : Option ℕ) (t : ℕ) → call_kind s o ≡ Call t → (o ≡ Some t) × (is_inside s t ≡ true)
call_leads s None t e = absurd (let z : ⊥ = cc in z)
call_leads s (Some u) t e =
    elim (is_inside s u) as (λ b. is_inside s u ≡ b → cond b (Call u) Outside ≡ Call t → (Some u ≡ Some t) × (is_inside s t ≡ true)) [
      | true ↦ λ h f. let same : u ≡ t = cc in (ap Some same, subst (λ x. is_inside s x ≡ true) same h)
      | false ↦ λ h f. absurd (let z : ⊥ = cc in z)
    ] refl e

return_is : (b : Bool) (k : Kind) → cond b Return (End reason.BadReturn) ≡ k → is_end k ≡ false → (b ≡ true) × (Return ≡ k)
return_is true k e h = (refl, e)
return_is false k e h = absurd (ended (End reason.BadReturn) k e refl h)

jump_is : (b : Bool) (k : Kind) → cond b (End reason.Unresolved) Step ≡ k → is_end k ≡ false → Step ≡ k
jump_is true k e h = absurd (ended (End reason.Unresolved) k e refl h)
jump_is false k e h = e

module _ (s : Subject) (a : ℕ) (i : Instr) (preds : List Predicate) where
  pub step_class : (c : Class) → kind_by c s a i preds ≡ Step → class_by c ≡ Ordinary
  step_class class.Calculation e = refl
  step_class class.Transfer e = refl
  step_class class.Division e = refl
  step_class class.Jump e = refl
  step_class class.Call e = absurd (call_no_step s (common_target s.image i preds) e)
  step_class class.Return e = absurd (let r = (return_is (list_all are_restored preds) Step e refl).1 in let z : ⊥ = cc in z)
  step_class class.SystemCall e = absurd (let z : ⊥ = cc in z)
  step_class class.Stop e = absurd (let z : ⊥ = cc in z)

  pub call_class : (t : ℕ) (c : Class) → kind_by c s a i preds ≡ Call t → (c ≡ class.Call) × (common_target s.image i preds ≡ Some t) × (is_inside s t ≡ true)
  call_class t class.Calculation e = absurd (let z : ⊥ = cc in z)
  call_class t class.Transfer e = absurd (let z : ⊥ = cc in z)
  call_class t class.Division e = absurd (let z : ⊥ = cc in z)
  call_class t class.Jump e = absurd (let r = jump_is (is_shut s a i) (Call t) e refl in let z : ⊥ = cc in z)
  call_class t class.Call e = let w = call_leads s (common_target s.image i preds) t e in (refl, w.0, w.1)
  call_class t class.Return e = absurd (let r = (return_is (list_all are_restored preds) (Call t) e refl).1 in let z : ⊥ = cc in z)
  call_class t class.SystemCall e = absurd (let z : ⊥ = cc in z)
  call_class t class.Stop e = absurd (let z : ⊥ = cc in z)

  pub outside_class : (c : Class) → kind_by c s a i preds ≡ Outside → (c ≡ class.Call) ⊎ (c ≡ class.SystemCall)
  outside_class class.Calculation e = absurd (let z : ⊥ = cc in z)
  outside_class class.Transfer e = absurd (let z : ⊥ = cc in z)
  outside_class class.Division e = absurd (let z : ⊥ = cc in z)
  outside_class class.Jump e = absurd (let r = jump_is (is_shut s a i) Outside e refl in let z : ⊥ = cc in z)
  outside_class class.Call e = inl refl
  outside_class class.Return e = absurd (let r = (return_is (list_all are_restored preds) Outside e refl).1 in let z : ⊥ = cc in z)
  outside_class class.SystemCall e = inr refl
  outside_class class.Stop e = absurd (let z : ⊥ = cc in z)

  pub return_class : (c : Class) → kind_by c s a i preds ≡ Return → (class_by c ≡ Returning) × (list_all are_restored preds ≡ true)
  return_class class.Calculation e = absurd (let z : ⊥ = cc in z)
  return_class class.Transfer e = absurd (let z : ⊥ = cc in z)
  return_class class.Division e = absurd (let z : ⊥ = cc in z)
  return_class class.Jump e = absurd (let r = jump_is (is_shut s a i) Return e refl in let z : ⊥ = cc in z)
  return_class class.Call e = absurd (call_no_return s (common_target s.image i preds) e)
  return_class class.Return e = (refl, (return_is (list_all are_restored preds) Return e refl).0)
  return_class class.SystemCall e = absurd (let z : ⊥ = cc in z)
  return_class class.Stop e = absurd (let z : ⊥ = cc in z)
