-- Where a call leads, which the lines of its site don't tell.
use Rattle.std.proofs.Common.{◌≡◌, ℕ, true, false, cond, List, [], ◌∷◌, map, Some, None, Option, refl, sym, ap, ◌∙◌, inl, inr, eqb-true}
use Rattle.std.specs.List.{list_all}
use Rattle.std.specs.Option.{option_and_then}
use Rattle.bits_core.specs.declared.width.Width.{Width}
use Rattle.bits_core.specs.declared.width.Width.TheVariants.{W64}
use Rattle.elf_image.specs.declared.image.Image.{Image}
use Rattle.sym_terms.specs.Plain.{constant_alone}
use Rattle.predicates.specs.Predicate.{Predicate}
use Rattle.x86_instr.specs.declared.class.Class.{Class}
use Rattle.x86_instr.specs.declared.class.Class.TheVariants as class
use Rattle.x86_instr.specs.declared.instr.Operand.{Operand}
use Rattle.x86_instr.specs.declared.instr.Operand.TheVariants as operand
use Rattle.x86_instr.specs.declared.instr.Instr.{Instr}
use Rattle.x86_instr.specs.Classes.{class_of}
use Rattle.step_rules.specs.Drop.{dropped}
use Rattle.step_rules.specs.Access.{known_term, bytes_term}
use Rattle.step_rules.specs.Calls.{target_by, call_target}
use Rattle.lift_graph.specs.Search.{IsMember}
use Rattle.site_lines.specs.declared.lines.Lines.{Lines}
use Rattle.site_lines.specs.Kinds.{common, common_target, bare_view, is_same_target}
use Rattle.site_lines.specs.Lines.{view_with}
use Rattle.lifted_rules.proofs.ListLemmas.{passes, member_map}

same_target : (t u : Option ℕ) (a : ℕ) → t ≡ Some a → is_same_target t u ≡ true → u ≡ Some a
same_target None u a e h = absurd (let z : ⊥ = cc in z)
same_target (Some b) None a e h = absurd (let z : ⊥ = cc in z)
same_target (Some b) (Some c) a e h = ap Some (eqb-true c b h) ∙ e

-- each is the address that all are
pub common_each : (ts : List (Option ℕ)) (a : ℕ) (u : Option ℕ) → common ts ≡ Some a → IsMember u ts → u ≡ Some a
common_each [] a u e m = absurd m
common_each (t ∷ ts) a u e m =
    elim (list_all (is_same_target t) ts) as (λ b. list_all (is_same_target t) ts ≡ b → cond b t None ≡ Some a → u ≡ Some a) [
      | true ↦ λ h k. elim m as (λ _. u ≡ Some a) [
        | inl first ↦ sym first ∙ k
        | inr later ↦ same_target t u a k (passes (is_same_target t) ts u h later)
      ]
      | false ↦ λ h k. absurd (let z : ⊥ = cc in z)
    ] refl e

-- what is known of an operand depends on nothing but the executable
term_alike : (image : Image) (lines : Lines) (i : Instr) (p : Predicate) (w : Width) (o : Operand) → known_term (view_with image lines) i p w o ≡ known_term (bare_view image) i p w o
unfolding known_term bytes_term
term_alike image lines i p w operand.None = refl
term_alike image lines i p w (operand.Reg r) = refl
term_alike image lines i p w (operand.High r) = refl
term_alike image lines i p w (operand.Imm n) = refl
term_alike image lines i p w (operand.Mem pl) = refl

target_alike : (image : Image) (lines : Lines) (i : Instr) (p : Predicate) (c : Class) → target_by c (view_with image lines) i p ≡ target_by c (bare_view image) i p
target_alike image lines i p class.Calculation = refl
target_alike image lines i p class.Transfer = refl
target_alike image lines i p class.Division = refl
target_alike image lines i p class.Jump = refl
target_alike image lines i p class.Call = ap (option_and_then constant_alone) (term_alike image lines i p W64 i.dst)
target_alike image lines i p class.Return = refl
target_alike image lines i p class.SystemCall = refl
target_alike image lines i p class.Stop = refl

-- the call of each vertex leads to the common target
pub target_is : (image : Image) (lines : Lines) (i : Instr) (preds : List Predicate) (t : ℕ) (p : Predicate) → common_target image i preds ≡ Some t → IsMember p preds → call_target (view_with image lines) i p ≡ Some t
target_is image lines i preds t p e m =
    target_alike image lines i (dropped i p) (class_of i.op)
    ∙ common_each (map (call_target (bare_view image) i) preds) t (call_target (bare_view image) i p) e (member_map (call_target (bare_view image) i) preds p m)
