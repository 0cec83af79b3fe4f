-- Where a call leads.
use Rattle.std.specs.Prelude.{◌≡◌, ℕ, Some}
use Rattle.elf_image.specs.Image.{IsImage}
use Rattle.sym_terms.specs.Value.{Valuation}
use Rattle.predicates.specs.Predicate.{Predicate}
use Rattle.x86_instr.specs.declared.instr.Op.TheVariants as op
use Rattle.x86_instr.specs.declared.instr.Instr.{Instr}
use Rattle.x86_instr.specs.Fits.{InForm}
use Rattle.x86_machine.specs.State.{State, IsState}
use Rattle.x86_machine.specs.Next.{next}
use Rattle.forest_meaning.specs.Assumed.{Loaded}
use Rattle.predicate_meaning.specs.Sat.{Sat}
use Rattle.step_rules.specs.View.{View}
use Rattle.step_rules.specs.Calls.{call_target}

-- a call goes to the constant that its target is
abbrev pub TargetLaw : Type 0
TargetLaw =
    (v : View) (i : Instr) (p : Predicate) (s t : State) (u : Valuation) (choice target : ℕ) →
    i.op ≡ op.Call → IsState s → InForm i → IsImage v.known.image → Loaded v.known.image s.memory → Sat p s u →
    call_target v i p ≡ Some target → next s i choice ≡ Some t → t.rip ≡ target
