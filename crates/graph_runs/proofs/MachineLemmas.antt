-- The laws of the machine, of the instructions of an executable.
use Rattle.std.proofs.Common.{◌≡◌, ℕ, ◌+◌, ◌%◌, ◌^◌, ◌<◌, Some, refl, sym, ap, subst, ◌∙◌, arith}
use Rattle.simulation.specs.World.{Calling}
use Rattle.simulation.specs.Laws as theory
use Rattle.elf_image.specs.declared.image.Image.{Image}
use Rattle.x86_instr.specs.Classes.{class_of as op_class}
use Rattle.x86_instr.specs.declared.instr.Op.{Op}
use Rattle.x86_instr.specs.declared.instr.Op.TheVariants as op
use Rattle.x86_instr.specs.declared.instr.Instr.{Instr}
use Rattle.x86_instr.specs.Fits.{InForm}
use Rattle.x86_spelling.specs.Spells.{IsSpelled}
use Rattle.x86_machine.specs.StepLaws.{StateLaw, CallLaw}
use Rattle.predicate_meaning.specs.Begin.{Began}
use Rattle.instr_at.specs.At.{instr_at, InstrAtLaw}
use Rattle.graph_runs.specs.Classes.{class_by, pushed_by}
use Rattle.graph_runs.specs.World.{x86}

-- what is spelled is in form
abbrev pub FormLaw : Type 0
FormLaw = (i : Instr) → i.addr < 2 ^ 64 → IsSpelled i → InForm i

-- an instruction of the executable is in form
pub in_form : InstrAtLaw → FormLaw → (image : Image) (address : ℕ) (i : Instr) → address < 2 ^ 64 → instr_at image address ≡ Some i → InForm i
in_form at forms image address i small e =
    let found = (at image address i).0 e in
    forms i (subst (λ a. a < 2 ^ 64) (sym found.address) small) (found.spelled.0, found.spelled.2)

pub state_holds : InstrAtLaw → FormLaw → StateLaw → (image : Image) → theory.StateLaw (x86 image)
state_holds at forms law image s t i choice range here leads = law s t i choice range (in_form at forms image s.rip i range.rip here) leads

-- only a call is of the class of calls
pub is_call : (o : Op) → class_by (op_class o) ≡ Calling → o ≡ op.Call
is_call op.Call e = refl
is_call _ e = absurd (cc)

pub push_holds : InstrAtLaw → CallLaw → (image : Image) → theory.PushLaw (x86 image)
push_holds at law image i s t choice range here calling leads =
    let p = law s t i choice range (is_call i.op calling) leads in
    record {
      rsp = p.back;
      saved = record {
        rbx = p.others 3 (λ e. omega (arith, e));
        rbp = p.others 5 (λ e. omega (arith, e));
        r12 = p.others 12 (λ e. omega (arith, e));
        r13 = p.others 13 (λ e. omega (arith, e));
        r14 = p.others 14 (λ e. omega (arith, e));
        r15 = p.others 15 (λ e. omega (arith, e));
        fs = p.fs_base;
      };
      top = p.top ∙ ap (λ a. (a + i.len) % 2 ^ 64) ((at image s.rip i).0 here).address;
      memory = p.memory ∙ sym (ap (λ class. pushed_by class s i) calling);
    }

pub begin_holds : (image : Image) → theory.BeginLaw (x86 image) Began
begin_holds image = record {
  fresh = λ s is. record { state = is; entry = λ r. refl; return_address = refl; fs_base = refl };
  named = λ u e a n b. record { state = b.state; entry = b.entry; return_address = b.return_address; fs_base = b.fs_base };
  return_address = λ u e b. b.return_address;
}
